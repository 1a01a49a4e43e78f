-- Laws of one value: what a claim leads to, the sum over the sizes as it is added up, and the value before a month.
use mathlib.Core.Path.{◌≡◌, refl, sym, ◌∙◌, ap}
use mathlib.Core.Bool.{cond}
use mathlib.Core.Logic.{⊎_elim}
use mathlib.Core.List.{List}
use mathlib.Core.Option.{Option, none, some}
use Prim.Native.Nat.{ℕ, zero, suc, ◌+◌, ◌*◌, ◌-◌, ◌/◌, ◌%◌, ◌≤◌, zero-le, ◌<◌, min}
use native.Mathlib.Nat.{div-add-mod', eq-or-lt_of_le}
use native.Mathlib.Numerals.{add-one}
use native.Mathlib.Omega.{arith}
use lib.ListN.{length, get_or, take, drop, length-drop}
use lib.Seq.{get_or-drop, get_or-take, length-take-le}
use Rattle.model.specs.declared.Rounding.{Rounding}
use Rattle.model.specs.declared.Question.{Question}
use Rattle.model.specs.Limits.{small_income}
use Rattle.model.specs.Scale.{S, quotient}
use Rattle.model.specs.Sums.{sum}
use Rattle.model.specs.Plan.{nth}
use Rattle.model.specs.MonthRule.{Row, claim_sum, exact_month, month, kept, claimed_row, month_back, values, all_placed, one_fewer, rule_of, last_of}
use Rattle.model.proofs.SumLaws.{sum_last}
use Rattle.model.proofs.Month.{claim_sum_zero}
use Rattle.model.proofs.Values.{first_and_rest, take_fits, kept_fits, values_fit, last_fits, months_fit}
use Rattle.plain_engine.specs.Steps.{left_after, sizes_followed, Terms}

-- one claim fewer, cut off at 0
pub one_left : (k : ℕ) → k - 1 ≡ left_after (one_fewer k)
unfolding left_after one_fewer
one_left zero = refl
one_left (suc k) = omega arith

-- with none left no size is followed, and otherwise all are
pub none_left : (k n : ℕ) → k ≡ 0 → 0 ≡ sizes_followed (one_fewer k) n
unfolding sizes_followed one_fewer
none_left k n e = rw e

pub some_left : (k n : ℕ) → (k ≡ 0 → ⊥) → n ≡ sizes_followed (one_fewer k) n
unfolding sizes_followed one_fewer
some_left zero n ne = absurd (ne refl)
some_left (suc k) n ne = refl

-- the last value of both: S with none left, and 0 otherwise
pub none_unplaced : (k s : ℕ) → k ≡ 0 → S ≡ all_placed k s
unfolding all_placed
none_unplaced k s e = rw e

pub some_unplaced : (k s : ℕ) → (k ≡ 0 → ⊥) → 0 ≡ all_placed k s
unfolding all_placed
some_unplaced zero s ne = absurd (ne refl)
some_unplaced (suc k) s ne = refl

-- at most all sizes
followed_within : (o : Option ℕ) (n : ℕ) → sizes_followed o n ≤ n
unfolding sizes_followed
followed_within none n = zero-le
followed_within (some k) n = omega arith

-- the sizes that are followed: each has a weight and is at most the level, so that it does not ruin
pub record Inside (F : List ℕ) (s most : ℕ) : Type 0 where
  pub level : most ≤ s
  pub all : length (take most F) ≡ most

pub followed_inside : (o : Option ℕ) (range : ℕ) (F : List ℕ) (s most : ℕ) → range ≡ min s (length F) → most ≡ sizes_followed o range → Inside F s most
followed_inside o range F s most er em =
    record { level = omega (arith, followed_within o range); all = length-take-le most F (omega (arith, followed_within o range)) }

-- the rows that a value reads: those of the months that follow it, with forbidden levels taken as 0
abbrev pub rows_after : Rounding → Question → List ℕ → List ℕ → ℕ → Row
rows_after round q F later j = kept (rule_of q).allowed (values (month round small_income F) (rule_of q) (last_of q) later j)

-- the product that a claim of size x adds, at a level before the month
abbrev pub claim_term : List ℕ → Row → ℕ → ℕ → ℕ
claim_term F row s x = nth F x * row (s + small_income - x)

-- the claim sum is over the sizes that are followed, so many of those in range
pub followed_sum :
    (F : List ℕ) (rows : ℕ → Row) (o : Option ℕ) (s most range fewer : ℕ) → range ≡ min s (length F) → most ≡ sizes_followed o range → fewer ≡ left_after o →
    sum most (claim_term F (rows fewer) s) ≡ claim_sum F (claimed_row rows o) (s + small_income)
unfolding claim_sum claimed_row sizes_followed left_after sum
followed_sum F rows none s most range fewer er em ef = rw em (sym (claim_sum_zero F (s + small_income)))
followed_sum F rows (some k) s most range fewer er em ef = let e : s + small_income - 1 ≡ s = omega arith in rw (e, em, er, ef)

-- a product, from a weight that was read one place before its size, and the value that the claim leads to
pub term_is :
    (F : List ℕ) (row : Row) (s most i v r : ℕ) → i < most → r ≡ get_or (take most F) i 0 * v → v ≡ row (s - i) → r ≡ claim_term F row s (suc i)
unfolding nth
term_is F row s most i v r l er ev =
    let down : s + small_income - suc i ≡ s - i = omega arith in
    rw (down, ← ev) (er ∙ ap (λ (w : ℕ). w * v) (get_or-take most F i 0 l))

sum_part : (f : ℕ → ℕ) (n i : ℕ) → i ≤ n → sum i f ≤ sum n f
sum_part f zero zero l = omega arith
sum_part f zero (suc i) l = absurd (omega arith)
sum_part f (suc n) i l =
    ⊎_elim
    (λ (e : i ≡ suc n). rw e (omega arith))
    (λ (m : i < suc n). omega (arith, sum_part f n i (omega arith), sum_last n f))
    (eq-or-lt_of_le l)

-- the sum so far takes one size more, and stays within that of all
pub summing_turn :
    (f : ℕ → ℕ) (most so_far i term : ℕ) → i < most → term ≡ f (suc i) → so_far ≡ sum i f →
    (so_far + term ≤ sum most f) × (so_far + term ≡ sum (i + 1) f)
summing_turn f most so_far i term l e h =
    let more : so_far + term ≡ sum (suc i) f = omega (arith, sum_last i f) in
    (omega (arith, more, sum_part f most (suc i) l), rw add-one more)

-- one month fewer
pub fewer_months : (Ps : List ℕ) → length (take (length Ps - 1) (drop 1 Ps)) ≡ length Ps - 1
fewer_months Ps = length-take-le (length Ps - 1) (drop 1 Ps) (omega (arith, length-drop 1 Ps))

-- what is known of the rows that a value reads
module _ (round : Rounding) (q : Question) (F Ps : List ℕ) (level : ℕ) (terms : Terms F Ps level) where
  later_fits : (i : ℕ) → get_or (take (length Ps - 1) (drop 1 Ps)) i 0 ≤ S
  later_fits = take_fits S (length Ps - 1) (drop 1 Ps) (λ i. rw get_or-drop (terms.chances_fit (1 + i)))

  -- what the next month's values take, at each level up to one above
  pub later_terms : 0 < length Ps → (s : ℕ) → s ≤ level + small_income → Terms F (take (length Ps - 1) (drop 1 Ps)) s
  later_terms months s l =
      record { weights_fit = terms.weights_fit; chances_fit = later_fits; levels_fit = omega (arith, terms.levels_fit, fewer_months Ps) }

  pub row_fits : (j s : ℕ) → rows_after round q F (take (length Ps - 1) (drop 1 Ps)) j s ≤ S
  row_fits j s = kept_fits (rule_of q).allowed _ s (values_fit round small_income F terms.weights_fit (rule_of q) (last_of q) (last_fits q) _ later_fits j s)

  pub sum_fits :
      (k : ℕ) → claim_sum F (claimed_row (rows_after round q F (take (length Ps - 1) (drop 1 Ps))) ((rule_of q).after_claim k)) (level + small_income) ≤ S * S
  sum_fits k = (months_fit round small_income F terms.weights_fit (rule_of q) (last_of q) (last_fits q) 0 zero-le (take (length Ps - 1) (drop 1 Ps)) later_fits k level).claims

-- a value that is not taken as 0 where its level is forbidden, and is then
pub level_is :
    (round : Rounding) (q : Question) (F later : List ℕ) (k s v r : ℕ) → r ≡ cond ((rule_of q).allowed s) v 0 →
    v ≡ values (month round small_income F) (rule_of q) (last_of q) later k s → r ≡ rows_after round q F later k s
unfolding kept
level_is round q F later k s v r er ev = rw (← ev) er

-- the value before a month, from the quiet value and the sum over the sizes, by its quotient by S and what is left over
pub value_is :
    (round : Rounding) (q : Question) (F Ps : List ℕ) (k s quiet whole r : ℕ) → 0 < length Ps →
    quiet ≡ rows_after round q F (take (length Ps - 1) (drop 1 Ps)) k (s + small_income) →
    whole ≡ claim_sum F (claimed_row (rows_after round q F (take (length Ps - 1) (drop 1 Ps))) ((rule_of q).after_claim k)) (s + small_income) →
    r ≡ quotient round ((S - get_or Ps 0 0) * S * quiet + get_or Ps 0 0 * (whole / S * S + whole % S)) (S * S) →
    r ≡ values (month round small_income F) (rule_of q) (last_of q) Ps k s
unfolding values month_back month exact_month
value_is round q F Ps k s quiet whole r months eq ew er =
    rw (first_and_rest Ps months, ← eq, ← ew)
    (er ∙ ap (λ (n : ℕ). quotient round ((S - get_or Ps 0 0) * S * quiet + get_or Ps 0 0 * n) (S * S)) (div-add-mod' whole S))

-- what the value of a level takes, the values of lower ones take too
pub terms_below : (F Ps : List ℕ) (level s : ℕ) → s ≤ level → Terms F Ps level → Terms F Ps s
terms_below F Ps level s l h = record { weights_fit = h.weights_fit; chances_fit = h.chances_fit; levels_fit = omega (arith, h.levels_fit) }
