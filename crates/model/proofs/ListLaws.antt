-- The lists' sums and tests as the library's iterators speak of them.
use Prim.Native.Nat.{ℕ, zero, suc, ◌+◌, ◌<◌}
use mathlib.Core.Path.{◌≡◌, refl, sym, ap, ◌∙◌}
use mathlib.Core.Bool.{Bool, true, false, ◌||◌}
use mathlib.Core.List.{List, [], ◌∷◌}
use mathlib.Core.Logic.{◌↔◌}
use native.Mathlib.Omega.{arith}
use lib.ListN.{length, get_or}
use Rattle.std.specs.List.{sum as list_sum}
use Rattle.std.proofs.lemmas.List.Sums.{sum_by-cons}
use Rattle.std.specs.Prelude.{IsTrue, SomeIndex}
use Rattle.model.specs.Sums.{total, any}

-- what `sum` adds up
pub total_sum : (xs : List ℕ) → list_sum xs ≡ total xs
unfolding total
total_sum [] = refl
total_sum (x ∷ xs) = sum_by-cons (λ y. y) x xs ∙ ap (λ y. x + y) (total_sum xs)

module _ (test : ℕ → Bool) where
  -- an index at which a list passes a test
  index_of : (xs : List ℕ) → any test xs ≡ true → SomeIndex xs (λ k. test (get_or xs k 0) ≡ true)
  unfolding any
  index_of [] e = absurd (let z : false ≡ true = e in cc)
  index_of (x ∷ xs) e = elim (test x) as (λ v. test x ≡ v → v || any test xs ≡ true → SomeIndex (x ∷ xs) (λ k. test (get_or (x ∷ xs) k 0) ≡ true)) [
    | true ↦ λ h _. (0, omega arith, h)
    | false ↦ λ _ later. let f = index_of xs later in (suc f.0, omega (arith, f.1), f.2)
  ] refl e

  passes : (xs : List ℕ) (k : ℕ) → k < length xs → test (get_or xs k 0) ≡ true → any test xs ≡ true
  unfolding any
  passes [] k inside e = elim inside [ ]
  passes (x ∷ xs) zero inside e = rw e
  passes (x ∷ xs) (suc k) inside e = elim (test x) as (λ v. v || any test xs ≡ true) [ true ↦ refl | false ↦ passes xs k (omega (arith, inside)) e ]

  -- what `any` answers, of a fact that the test decides
  pub any_is :
      (P : ℕ → Type 0)
      → ((x : ℕ) → P x ↔ (test x ≡ true))
      → (xs : List ℕ) (b : Bool)
      → IsTrue b ↔ SomeIndex xs (λ k. P (get_or xs k 0))
      → b ≡ any test xs
  any_is P decides xs true h = let f = h.0 refl in sym (passes xs f.0 f.1 ((decides (get_or xs f.0 0)).0 f.2))
  any_is P decides xs false h = elim (any test xs) as (λ v. any test xs ≡ v → false ≡ v) [
    | true ↦ λ e. let f = index_of xs e in h.1 (f.0, f.1, (decides (get_or xs f.0 0)).1 f.2)
    | false ↦ λ _. refl
  ] refl
