-- Memory that is filled upward with what a function gives at each place.
use Prim.Native.Nat.{ℕ, ◌+◌, ◌<◌, ◌≤◌}
use mathlib.Core.Path.{◌≡◌, refl, sym, ap, ap₂, ◌∙◌}
use mathlib.Core.List.{List, [], ◌∷◌, ◌++◌}
use native.Mathlib.Numerals.{add-one}
use native.Mathlib.Omega.{arith}
use lib.ListN.{length, take, set, length-set}
use lib.Seq.{take-suc-set, take_all}
use Rattle.test_mixtures.specs.Records.{first_of}

-- the first i places of n are filled
pub record Storing {A : Type 0} (f : ℕ → A) (n : ℕ) (memory : List A) (i : ℕ) : Type 0 where
  pub long : length memory ≡ n
  pub within : i ≤ n
  pub stored : take i memory ≡ first_of i f

module _ {A : Type 0} (f : ℕ → A) (n : ℕ) (memory : List A) where
  pub storing_none : length memory ≡ n → Storing f n memory 0
  unfolding first_of
  storing_none long = record { long = long; within = omega arith; stored = refl }

  module _ (i : ℕ) (before : Storing f n memory i) where
    pub storing_more : (a : A) → i < n → a ≡ f i → Storing f n (set memory i a) (i + 1)
    unfolding first_of
    storing_more a inside is =
        record {
          long = length-set memory i a ∙ before.long;
          within = omega arith;
          stored =
              rw (add-one)
              (take-suc-set memory i a (omega (arith, before.long)) ∙ ap₂ (λ (l : List A) (x : A). l ++ (x ∷ [])) before.stored is);
        }

    pub storing_done : n ≤ i → memory ≡ first_of n f
    storing_done all =
        let end : i ≡ n = omega (arith, before.within) in
        sym (take_all i memory (omega (arith, before.long))) ∙ before.stored ∙ ap (λ k. first_of k f) end
