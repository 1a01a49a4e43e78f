-- The weights and chances of a sheet, one by one: each weight lies in 0 to 1, so its parts fit; what is told of all of them.
use Prim.Native.Nat.{ℕ, zero, suc, ◌+◌, ◌-◌, ◌<◌}
use mathlib.Core.Path.{◌≡◌, refl, sym, ap, ap₂, ◌∙◌}
use mathlib.Core.Bool.{Bool, true, false, not}
use mathlib.Core.List.{List, [], ◌∷◌, ◌++◌, append-nil}
use native.Mathlib.Nat.{zero-add, add_assoc}
use native.Mathlib.Numerals.{add-one}
use native.Mathlib.Omega.{arith}
use borrow.Author.Tests.{not-false}
use lib.IntN.{pos}
use lib.Ieee.{Float, binary64, of_int, add, sub, mul}
use lib.ListN.{length, get_or, drop, set, length-append, drop_of_length-le}
use lib.Seq.{get_or-append-add, drop-cons, set_at, take_at, drop_at}
use borrow.Rule.Slice.PartMut.{put_mid}
use Rattle.std.specs.Bool.{MatchBool}
use Rattle.std.specs.List.{sum as summed, fold, range_with_len, HoldsAt, AllWithin}
use Rattle.std.proofs.lemmas.List.FromFn.{length-range_with_len, get_or-range_with_len}
use Rattle.model.specs.Scale.{S}
use Rattle.model.specs.Sums.{sum, one_to, total, any}
use Rattle.model.specs.Plan.{row_length}
use Rattle.model.proofs.SumLaws.{sum_last, total_one_to, none_at, none_to, some_to}
use Rattle.model.proofs.Counts.{length_tabulate}
use Rattle.model.proofs.Filling.{map_one_to}
use Rattle.doubles.specs.Doubles.{one, within, parts}
use Rattle.doubles.proofs.RangeLaws.{within_rest, within_product}
use Rattle.sheet_values.specs.declared.ChanceRule.{ChanceRule}
use Rattle.sheet_values.specs.declared.ChanceRule.TheVariants.{Level, Ramp}
use Rattle.sheet_values.specs.declared.RuleSheet.{RuleSheet}
use Rattle.sheet_values.specs.Sheet.{sheet_head}
use Rattle.sheet_values.specs.Rules.{chance, repeated, weight, chances, weights, tail, size_part, sheet_row}

-- ---- the weights

module _ (alpha : Float) where
  -- that of size 1, and that of the next size
  pub weight_first : sub binary64 one alpha ≡ weight alpha 1
  unfolding weight repeated
  weight_first = refl

  pub weight_next : (i : ℕ) → mul binary64 (weight alpha (i + 1)) alpha ≡ weight alpha (i + 1 + 1)
  unfolding weight repeated
  weight_next i =
      let this : i + 1 - 1 ≡ i = omega arith in
      let next : i + 1 + 1 - 1 ≡ suc i = omega arith in
      rw (this, next)

  repeated_within : within alpha ≡ true → (n : ℕ) → within (repeated n (λ w. mul binary64 w alpha) (sub binary64 one alpha)) ≡ true
  unfolding repeated
  repeated_within h zero = within_rest alpha h
  repeated_within h (suc n) = within_product _ alpha (repeated_within h n) h

  pub weight_within : within alpha ≡ true → (x : ℕ) → within (weight alpha x) ≡ true
  unfolding weight
  weight_within h x = repeated_within h (x - 1)

  -- ---- their sum, size by size

  abbrev pub weight_sum : ℕ → ℕ
  weight_sum n = sum n (λ x. parts (weight alpha x))

  pub weight_sum_whole : (n : ℕ) → weight_sum n ≡ total (weights alpha n)
  unfolding weights
  weight_sum_whole n = sym (total_one_to n (λ x. parts (weight alpha x)))

  pub weight_sum_next : (i : ℕ) → weight_sum i + parts (weight alpha (i + 1)) ≡ weight_sum (i + 1)
  weight_sum_next i = rw (add-one) (sym (sum_last i (λ x. parts (weight alpha x))))

-- the sum of a list, as the library adds it up
pub total_summed : (xs : List ℕ) → summed xs ≡ total xs
unfolding total
total_summed xs = from xs 0 ∙ zero-add (total xs)
  where
    from : (xs : List ℕ) (start : ℕ) → fold (λ a x. a + x) start xs ≡ start + total xs
    from [] start = omega arith
    from (x ∷ xs) start = from xs (start + x) ∙ add_assoc start x (total xs)

-- ---- the chances

-- by either rule
pub level_chance : (first : Float) (i : ℕ) → chance (Level first) i ≡ first
unfolding chance
level_chance first i = refl

pub ramp_chance : (first step : Float) (i : ℕ) → chance (Ramp first step) i ≡ add binary64 first (mul binary64 (of_int binary64 (pos (i - 1))) step)
unfolding chance
ramp_chance first step i = refl

-- where none is outside, each is within
pub chance_within :
    (rule : ChanceRule) (n : ℕ) → any (λ i. not (within (chance rule i))) (one_to n) ≡ false → (i : ℕ) → i < n → within (chance rule (i + 1)) ≡ true
chance_within rule n e i l = rw add-one (not-false _ (none_at n (λ k. not (within (chance rule k))) e i l))

nth_of : (n k : ℕ) → k < n → get_or (range_with_len 0 n) k 0 ≡ k
nth_of n k l = get_or-range_with_len 0 n k 0 l ∙ zero-add k

-- a test of each of 1 to n, as a chain over a range tells it
pub any_told :
    (n : ℕ) (test : ℕ → Bool) (told : Bool) →
    let all = range_with_len 0 n in
    MatchBool told ((k : ℕ) × (k < length all) × HoldsAt (λ i. test (suc i) ≡ true) all k) (AllWithin (λ i. test (suc i) ≡ false) all 0 (length all)) →
    told ≡ any test (one_to n)
any_told n test true h =
    let below : h.0 < n = omega (arith, h.1, length-range_with_len 0 n) in
    sym (some_to n test h.0 below (ap (λ i. test (suc i)) (sym (nth_of n h.0 below)) ∙ h.2 0))
any_told n test false h =
    sym (none_to n test (λ k l. ap (λ i. test (suc i)) (sym (nth_of n k l)) ∙ h k 0 (omega arith) (omega (arith, l, length-range_with_len 0 n))))

-- ---- the row

pub chances_length : (rule : ChanceRule) (n : ℕ) → length (chances rule n) ≡ n
unfolding chances
chances_length rule n = ap length (map_one_to _ _) ∙ length_tabulate _ _

pub weights_length : (alpha : Float) (m : ℕ) → length (weights alpha m) ≡ m
unfolding weights
weights_length alpha m = ap length (map_one_to _ _) ∙ length_tabulate _ _

sizes_length : (alpha : Float) (m : ℕ) → length (size_part alpha m) ≡ m + 1
unfolding size_part
sizes_length alpha m = length-append (weights alpha m) _ ∙ ap (λ n. n + 1) (weights_length alpha m)

-- the tail is what the weights leave of S
pub tail_left : (alpha : Float) (m : ℕ) → S - total (weights alpha m) ≡ tail alpha m
unfolding tail
tail_left alpha m = refl

-- the weights stored, and then the tail
pub sizes_stored :
    (alpha : Float) (row : List ℕ) (m : ℕ) → length row ≡ m + 1 → set (weights alpha m ++ drop m row) m (tail alpha m) ≡ size_part alpha m
unfolding size_part
sizes_stored alpha row m one_more =
    let last : drop m row ≡ get_or row m 0 ∷ drop (suc m) row = drop-cons row m 0 (omega arith) in
    let end : drop (suc m) row ≡ [] = drop_of_length-le row {i = suc m} (omega arith) in
    ap (λ l. set (weights alpha m ++ l) m (tail alpha m)) (last ∙ ap (λ l. get_or row m 0 ∷ l) end)
    ∙ set_at (weights alpha m) (get_or row m 0) [] (tail alpha m) m (weights_length alpha m)

-- the first part stored, and then all that follows it
pub rest_stored :
    (first rest row : List ℕ) (n : ℕ) → length first ≡ n
    → put_mid n (length (first ++ drop n row) - n) (first ++ drop n row) rest ≡ first ++ rest
rest_stored first rest row n is =
    let count = length (first ++ drop n row) - n in
    let after : drop count (drop n row) ≡ [] = drop_of_length-le (drop n row) {i = count} (omega (arith, length-append first (drop n row))) in
    ap₂ (λ a b. a ++ (rest ++ b)) (take_at first (drop n row) n is) (ap (drop count) (drop_at first (drop n row) n is) ∙ after)
    ∙ ap (λ l. first ++ l) (append-nil rest)

module _ (s : RuleSheet) where
  -- it has the length that the head asks
  pub row_is : length (sheet_row s) ≡ row_length (sheet_head s)
  unfolding sheet_row sheet_head
  row_is =
      omega (
        arith,
        length-append (chances s.rule s.months) (size_part s.alpha s.sizes),
        chances_length s.rule s.months,
        sizes_length s.alpha s.sizes,
      )

  -- the tail at its end
  pub row_tail : get_or (sheet_row s) (s.months + s.sizes) 0 ≡ tail s.alpha s.sizes
  unfolding sheet_row size_part
  row_tail =
      let front = chances s.rule s.months in
      let middle = weights s.alpha s.sizes in
      let start : s.months + s.sizes ≡ length front + (length middle + 0) =
      omega (arith, chances_length s.rule s.months, weights_length s.alpha s.sizes) in
      ap (λ n. get_or (sheet_row s) n 0) start
      ∙ get_or-append-add front _ (length middle + 0) 0
      ∙ get_or-append-add middle _ 0 0
