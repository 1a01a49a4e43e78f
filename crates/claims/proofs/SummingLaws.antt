-- Laws of the claim sum as the loops go through it: the sizes listed one by one, and then those without a gap.
use mathlib.Core.Path.{◌≡◌, refl, sym, ◌∙◌, ap}
use mathlib.Core.List.{List, ◌++◌, map, map-append}
use Prim.Native.Nat.{ℕ, zero, suc, ◌+◌, ◌*◌, ◌-◌, ◌≤◌, ◌<◌, min}
use native.Mathlib.Nat.{zero-mul}
use native.Mathlib.Numerals.{add-one}
use native.Mathlib.Omega.{arith}
use lib.ListN.{length, get_or, drop, length-append, get_or-append, drop_of_length-le}
use lib.Seq.{drop-cons}
use Rattle.model.specs.Scale.{S}
use Rattle.model.specs.Sums.{sum, total}
use Rattle.model.specs.Plan.{nth}
use Rattle.model.specs.MonthRule.{claim_sum}
use Rattle.model.specs.FilledSizes.{filled_sizes, filled_sum, filled_count}
use Rattle.model.proofs.SumLaws.{sum_ext, sum_last, total_append}
use Rattle.model.proofs.Month.{claim_sum_fits}
use Rattle.model.proofs.FilledLaws.{filled_total, filled_sum_is, filled_inside, filled_count_is, filled_all}
use Rattle.claims.specs.Values.{from_top, Parts}
use Rattle.claims.specs.Listing.{sum_term, SizesIn, NoGap, ListsRange}

-- The loop over the listed sizes: the sum over the rest is the next product and the sum over those after it.
pub listed_next :
    (F after sizes : List ℕ) (k : ℕ) → k < length sizes → 0 < get_or sizes k 0 → let place = get_or sizes k 0 - 1 in
    total (map (sum_term F after) (drop k sizes)) ≡ get_or F place 0 * get_or after place 0 + total (map (sum_term F after) (drop (k + 1) sizes))
unfolding nth total
listed_next F after sizes k l p =
    let here : suc (get_or sizes k 0 - 1) ≡ get_or sizes k 0 = omega arith in
    let first : sum_term F after (get_or sizes k 0) ≡ get_or F (get_or sizes k 0 - 1) 0 * get_or after (get_or sizes k 0 - 1) 0 = ap (sum_term F after) (sym here) in
    rw (add-one, drop-cons sizes k 0 l) (ap (λ (n : ℕ). n + total (map (sum_term F after) (drop (suc k) sizes))) first)

pub listed_none : (f : ℕ → ℕ) (sizes : List ℕ) (k : ℕ) → length sizes ≤ k → total (map f (drop k sizes)) ≡ 0
unfolding total
listed_none f sizes k l = rw (drop_of_length-le sizes {i = k} l)

-- The loop over the sizes from `most` down: the sum over the first x is the last product and the sum over those below.
pub dense_next :
    (F after : List ℕ) (x : ℕ) → 0 < x → sum x (sum_term F after) ≡ get_or F (x - 1) 0 * get_or after (x - 1) 0 + sum (x - 1) (sum_term F after)
unfolding nth
dense_next F after x l =
    let here : suc (x - 1) ≡ x = omega arith in
    omega (arith, sum_last (x - 1) (sum_term F after), ap (λ (n : ℕ). sum n (sum_term F after)) here)

pub dense_none : (f : ℕ → ℕ) (x : ℕ) → x ≤ 0 → sum x f ≡ 0
unfolding sum
dense_none f zero l = refl
dense_none f (suc x) l = absurd (omega arith)

-- The filled sizes of a range in two parts: those listed, and all of the sizes 1 to `low`.
pub record Parted (F after sizes : List ℕ) (low : ℕ) : Type 0 where
  pub count : length sizes + low ≡ filled_count F (length after + 1)
  pub sums : total (map (sum_term F after) sizes) + sum low (sum_term F after) ≡ sum (min (length after) (length F)) (sum_term F after)

pub parted :
    (F after sizes : List ℕ) (dense low : ℕ) → ListsRange F sizes dense (min (length after) (length F)) → NoGap F dense →
    low ≡ min (min (length after) (length F)) dense → Parted F after sizes low
unfolding nth
parted F after sizes dense low e h el =
    record {
      count = omega (arith, length-append sizes (filled_sizes F low), all, ap length whole, rw less at (filled_count_is F (length after + 1)));
      sums =
          ap (λ (t : ℕ). total (map f sizes) + t) (sym (filled_total F f empty low))
          ∙ sym (ap total (map-append f sizes (filled_sizes F low)) ∙ total_append (map f sizes) (map f (filled_sizes F low)))
          ∙ ap (λ (ys : List ℕ). total (map f ys)) whole
          ∙ filled_total F f empty n;
    }
  where
    n : ℕ
    n = min (length after) (length F)

    f : ℕ → ℕ
    f = sum_term F after

    less : length after + 1 - 1 ≡ length after
    less = omega arith

    empty : (x : ℕ) → get_or F x 0 ≡ 0 → get_or F x 0 * get_or after x 0 ≡ 0
    empty x e = ap (λ (w : ℕ). w * get_or after x 0) e ∙ zero-mul (get_or after x 0)

    all : length (filled_sizes F low) ≡ low
    all = filled_all F low (λ i l. h.filled i (omega arith) (omega arith))

    whole : sizes ++ filled_sizes F low ≡ filled_sizes F n
    whole = ap (λ (k : ℕ). sizes ++ filled_sizes F k) el ∙ e

-- a listed size in range has a weight and a value
pub sizes_in : (F sizes : List ℕ) (dense n : ℕ) → ListsRange F sizes dense n → SizesIn n sizes
sizes_in F sizes dense n e =
    record {
      each = λ k l.
          let longer : k < length (filled_sizes F n) = omega (arith, length-append sizes (filled_sizes F (min n dense)), ap length e) in
          rw (← get_or-append sizes (filled_sizes F (min n dense)) 0 k l, e) (filled_inside F n k longer);
    }

-- The sum over the range, of values from the level that many places hold down to 1, is the claim sum from the large end.
pub whole_sum :
    (F after : List ℕ) →
    sum (min (length after) (length F)) (sum_term F after) ≡ filled_sum F (from_top (length after) after) (length after + 1)
unfolding claim_sum nth
whole_sum F after =
    sum_ext (min m (length F)) (sum_term F after) (λ x. nth F x * from_top m after (m + 1 - x)) (λ i l. same i (omega arith))
    ∙ ap (λ (k : ℕ). sum (min k (length F)) (λ x. nth F x * from_top m after (m + 1 - x))) less
    ∙ sym (filled_sum_is F (from_top m after) (m + 1))
  where
    m : ℕ
    m = length after

    less : m ≡ m + 1 - 1
    less = omega arith

    same : (i : ℕ) → i < m → get_or F i 0 * get_or after i 0 ≡ get_or F i 0 * get_or after (m - (m + 1 - suc i)) 0
    same i l = let place : i ≡ m - (m + 1 - suc i) = omega arith in ap (λ (k : ℕ). get_or F i 0 * get_or after k 0) place

pub whole_fits :
    (F after : List ℕ) → total F ≤ S → Parts after → sum (min (length after) (length F)) (sum_term F after) ≤ S * S
whole_fits F after hF hV =
    rw (whole_sum F after, filled_sum_is F (from_top (length after) after) (length after + 1))
    (claim_sum_fits F (from_top (length after) after) hF (λ s. hV.each _) (length after + 1))
