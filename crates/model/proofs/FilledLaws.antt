-- Laws of the sizes that are not empty: the sum over them is document 01's claim sum, and they are as many as the weights above 0.
use mathlib.Core.Path.{◌≡◌, refl, sym, ◌∙◌, ap}
use mathlib.Core.Bool.{Bool, true, false, cond}
use mathlib.Core.List.{List, [], ◌∷◌, map}
use Prim.Native.Nat.{ℕ, zero, suc, ◌+◌, ◌*◌, ◌-◌, ◌≤◌, ◌<◌, min}
use native.Mathlib.Nat.{le_refl, zero-mul, zero-add, add-zero, suc-add, min-zero, zero-min, suc-min-suc}
use native.Mathlib.Omega.{arith}
use lib.Dec.{ltb}
use lib.ListN.{length, get_or, take}
use borrow.Author.Tests.{ltb-true, ltb-false, lt-ltb}
use Rattle.model.specs.Sums.{sum, total, count}
use Rattle.model.specs.Plan.{nth}
use Rattle.model.specs.MonthRule.{Row, claim_sum}
use Rattle.model.specs.FilledSizes.{filled_sizes, filled_sum, filled_count}
use Rattle.model.proofs.SumLaws.{sum_last, positive_none, positive_more}

-- What holds of the filled sizes of a range, and with it of one filled size more and of one empty size more, holds of every wider range.
pub filled_from :
    (F : List ℕ) (Holds : ℕ → List ℕ → Type 0) (d : ℕ) → Holds d (filled_sizes F d) →
    ((n : ℕ) (xs : List ℕ) → 0 < nth F (suc n) → Holds n xs → Holds (suc n) (suc n ∷ xs)) →
    ((n : ℕ) (xs : List ℕ) → nth F (suc n) ≡ 0 → Holds n xs → Holds (suc n) xs) →
    (j : ℕ) → Holds (j + d) (filled_sizes F (j + d))
unfolding filled_sizes
filled_from F Holds d first filled empty zero = rw zero-add first
filled_from F Holds d first filled empty (suc j) =
    rw suc-add (go (ltb 0 (nth F (suc (j + d)))) refl (filled_from F Holds d first filled empty j))
  where
    go :
        (b : Bool) → ltb 0 (nth F (suc (j + d))) ≡ b → Holds (j + d) (filled_sizes F (j + d)) →
        Holds (suc (j + d)) (cond b (suc (j + d) ∷ filled_sizes F (j + d)) (filled_sizes F (j + d)))
    go true e = filled (j + d) (filled_sizes F (j + d)) (ltb-true 0 (nth F (suc (j + d))) e)
    go false e = empty (j + d) (filled_sizes F (j + d)) (let l = ltb-false 0 (nth F (suc (j + d))) e in omega arith)

-- the same from no sizes on
pub filled_ind :
    (F : List ℕ) (Holds : ℕ → List ℕ → Type 0) → Holds 0 [] →
    ((n : ℕ) (xs : List ℕ) → 0 < nth F (suc n) → Holds n xs → Holds (suc n) (suc n ∷ xs)) →
    ((n : ℕ) (xs : List ℕ) → nth F (suc n) ≡ 0 → Holds n xs → Holds (suc n) xs) →
    (n : ℕ) → Holds n (filled_sizes F n)
unfolding filled_sizes
filled_ind F Holds none filled empty n = rw add-zero at (filled_from F Holds 0 none filled empty n)

-- one size more: filled, or empty
pub filled_more : (F : List ℕ) (n : ℕ) → 0 < nth F (suc n) → filled_sizes F (suc n) ≡ suc n ∷ filled_sizes F n
unfolding filled_sizes
filled_more F n l = rw (lt-ltb 0 (nth F (suc n)) l)

pub filled_same : (F : List ℕ) (n : ℕ) → nth F (suc n) ≡ 0 → filled_sizes F (suc n) ≡ filled_sizes F n
unfolding filled_sizes
filled_same F n e = rw e

-- A sum over the filled sizes is the sum over all, where an empty size has a term of 0.
pub filled_total :
    (F : List ℕ) (f : ℕ → ℕ) → ((x : ℕ) → nth F (suc x) ≡ 0 → f (suc x) ≡ 0) →
    (n : ℕ) → total (map f (filled_sizes F n)) ≡ sum n f
unfolding total sum
filled_total F f none =
    filled_ind F (λ n xs. total (map f xs) ≡ sum n f) refl
    (λ n xs l e. omega (arith, sum_last n f, e))
    (λ n xs z e. omega (arith, sum_last n f, none n z, e))

-- Document 02: the sum in that order is document 01's "on every table", row and level.
pub filled_sum_is : (F : List ℕ) (Y : Row) (level : ℕ) → filled_sum F Y level ≡ claim_sum F Y level
unfolding filled_sum claim_sum
filled_sum_is F Y level =
    filled_total F (λ x. nth F x * Y (level - x)) (λ x z. ap (λ (w : ℕ). w * Y (level - suc x)) z ∙ zero-mul (Y (level - suc x)))
    (min (level - 1) (length F))

-- a filled size is one of 1 to n
pub filled_inside : (F : List ℕ) (n k : ℕ) → k < length (filled_sizes F n) → (0 < get_or (filled_sizes F n) k 0) × (get_or (filled_sizes F n) k 0 ≤ n)
filled_inside F =
    filled_ind F (λ n xs. (k : ℕ) → k < length xs → (0 < get_or xs k 0) × (get_or xs k 0 ≤ n)) (λ k l. absurd (omega arith)) more
    (λ n xs z h k l. ((h k l).0, omega (arith, (h k l).1)))
  where
    more :
        (n : ℕ) (xs : List ℕ) → 0 < nth F (suc n) → ((k : ℕ) → k < length xs → (0 < get_or xs k 0) × (get_or xs k 0 ≤ n)) →
        (k : ℕ) → k < suc (length xs) → (0 < get_or (suc n ∷ xs) k 0) × (get_or (suc n ∷ xs) k 0 ≤ suc n)
    more n xs w h zero l = (omega arith, le_refl (suc n))
    more n xs w h (suc k) l = let in_xs : k < length xs = omega arith in ((h k in_xs).0, omega (arith, (h k in_xs).1))

-- one weight more, wherever it is counted
count_take_more : (F : List ℕ) (n : ℕ) → count (λ x. ltb 0 x) (take (suc n) F) ≡ count (λ x. ltb 0 x) (nth F (suc n) ∷ take n F)
unfolding nth count
count_take_more [] zero = sym (positive_none [])
count_take_more [] (suc n) = sym (positive_none [])
count_take_more (f ∷ F) zero = refl
count_take_more (f ∷ F) (suc n) = omega (arith, count_take_more F n)

-- as many as the weights above 0
filled_length : (F : List ℕ) (n : ℕ) → length (filled_sizes F n) ≡ count (λ x. ltb 0 x) (take n F)
unfolding count
filled_length F =
    filled_ind F (λ n xs. length xs ≡ count (λ x. ltb 0 x) (take n F)) refl
    (λ n xs w e. omega (arith, e, count_take_more F n, positive_more (nth F (suc n)) (take n F) w))
    (λ n xs z e. e ∙ sym (count_take_more F n ∙ ap (λ (f : ℕ). count (λ x. ltb 0 x) (f ∷ take n F)) z ∙ positive_none (take n F)))

take_min : (n : ℕ) (xs : List ℕ) → take (min n (length xs)) xs ≡ take n xs
take_min zero xs = rw zero-min
take_min (suc n) [] = rw min-zero
take_min (suc n) (x ∷ xs) = rw suc-min-suc (ap (λ (ys : List ℕ). x ∷ ys) (take_min n xs))

-- Document 02: the sizes that the sum runs over are "exactly the number of sizes in its range with a weight above 0".
pub filled_count_is : (F : List ℕ) (level : ℕ) → length (filled_sizes F (min (level - 1) (length F))) ≡ filled_count F level
unfolding filled_count
filled_count_is F level =
    filled_length F (min (level - 1) (length F)) ∙ ap (λ (weights : List ℕ). count (λ x. ltb 0 x) weights) (take_min (level - 1) F)

-- tables that agree on a range have the same filled sizes there
pub filled_agree : (F G : List ℕ) (n : ℕ) → ((i : ℕ) → i < n → nth F (suc i) ≡ nth G (suc i)) → filled_sizes F n ≡ filled_sizes G n
unfolding filled_sizes
filled_agree F G zero h = refl
filled_agree F G (suc n) h = rw (h n (omega arith), filled_agree F G n (λ i l. h i (omega arith)))

-- where none is empty they are all of 1 to n
pub filled_all : (F : List ℕ) (n : ℕ) → ((i : ℕ) → i < n → 0 < nth F (suc i)) → length (filled_sizes F n) ≡ n
filled_all F n h =
    filled_ind F (λ k xs. k ≤ n → length xs ≡ k) (λ l. refl) (λ k xs w e l. ap suc (e (omega arith)))
    (λ k xs z e l. absurd (omega (arith, h k (omega arith), z))) n (le_refl n)
