-- Memory that is filled upward, number by number, and the lists that it then holds.
use Prim.Native.Nat.{ℕ, zero, suc, ◌+◌, ◌<◌, ◌≤◌}
use mathlib.Core.Path.{◌≡◌, refl, sym, ap, ◌∙◌}
use mathlib.Core.List.{List, ◌∷◌, map, map-map}
use native.Mathlib.Omega.{arith}
use borrow.Author.Count.{below_more}
use lib.ListN.{length, get_or, set, length-set}
use lib.Seq.{get_or-set_same, get_or-set_other, ext_get_or}
use Rattle.model.specs.Sums.{one_to}
use Rattle.model.specs.CountRow.{tabulate}
use Rattle.model.proofs.Counts.{length_tabulate, get_d_tabulate}

-- what a function makes of 1 to n
pub map_one_to : (n : ℕ) (f : ℕ → ℕ) → map f (one_to n) ≡ tabulate n (λ k. f (suc k))
unfolding one_to tabulate
map_one_to zero f = refl
map_one_to (suc n) f = ap (λ l. f 1 ∷ l) (map-map f suc (one_to n) ∙ map_one_to n (λ x. f (suc x)))

-- the first i numbers are stored
pub record Filling (f : ℕ → ℕ) (start row : List ℕ) (i : ℕ) : Type 0 where
  pub within : i ≤ length start
  pub same : length row ≡ length start
  pub stored : (k : ℕ) → k < i → get_or row k 0 ≡ f k

module _ (f : ℕ → ℕ) (start : List ℕ) where
  pub filling_none : Filling f start start 0
  filling_none = record { within = omega arith; same = refl; stored = λ k l. absurd (omega arith) }

  module _ (row : List ℕ) (i : ℕ) (before : Filling f start row i) where
    pub filling_more : (v : ℕ) → i < length row → v ≡ f i → Filling f start (set row i v) (i + 1)
    filling_more v inside is =
        record {
          within = omega arith;
          same = length-set row i v ∙ before.same;
          stored =
              below_more (λ k. get_or (set row i v) k 0 ≡ f k) i
              (λ k l. get_or-set_other row i k v 0 (λ e. omega (arith, e)) ∙ before.stored k l)
              (get_or-set_same row i v 0 inside ∙ is);
        }

    pub filling_done : length row ≤ i → row ≡ tabulate (length start) f
    filling_done all =
        ext_get_or 0 row _ (before.same ∙ sym (length_tabulate _ _))
        (λ k l. before.stored k (omega arith) ∙ sym (get_d_tabulate _ _ k (omega (arith, before.same))))
