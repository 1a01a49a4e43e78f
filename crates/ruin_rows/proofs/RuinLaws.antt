-- Laws of the row before a month that may ruin: its weights summed, and its values.
use mathlib.Core.Path.{◌≡◌, sym, ap, ◌∙◌}
use mathlib.Core.List.{List, [], ◌∷◌, ◌++◌}
use Prim.Native.Nat.{ℕ, ◌+◌, ◌*◌, ◌-◌, ◌≤◌}
use native.Mathlib.Nat.{mul-le-mul}
use native.Mathlib.Omega.{arith}
use lib.ListN.{drop, replicate, length-replicate, replicate-append-replicate}
use lib.Seq.{drop_at}
use Rattle.std.specs.List.{fold, sum_by}
use Rattle.model.specs.declared.Rounding.{Rounding}
use Rattle.model.specs.Scale.{S, quotient}
use Rattle.model.specs.Sums.{total}
use Rattle.model.specs.MonthRule.{Row, ruin_weight, ruin_row}
use Rattle.model.proofs.SumLaws.{total_drop_le}
use Rattle.model.proofs.FirstRuin.{ruin_weight_fits, ruin_row_fits}
use Rattle.ruin_rows.specs.Terms.{RuinTerms}

-- the weights of a list, as they are summed one after the other
summed : (start : ℕ) (F : List ℕ) → fold (λ a f. a + f) start F ≡ start + total F
unfolding total
summed start [] = omega arith
summed start (f ∷ F) = let rest = summed (start + f) F in omega (arith, rest)

-- those from a size on fit, and with the tail they are the weight that ruins
pub listed_fits : (F : List ℕ) (tail from : ℕ) → total F + tail ≤ S → tail + sum_by (λ (f : ℕ). f) (drop from F) ≤ S
listed_fits F tail from fits = omega (arith, summed 0 (drop from F), total_drop_le from F)

pub weight_is :
    (F : List ℕ) (tail level from listed : ℕ) → from ≡ level - 1 → listed ≡ sum_by (λ (f : ℕ). f) (drop from F) → tail + listed ≡ ruin_weight F tail level
unfolding ruin_weight
weight_is F tail level from listed ef e = omega (arith, summed 0 (drop from F), ap (λ (n : ℕ). total (drop n F)) ef)

-- the row's values by their places, from the level `top` at place 0
abbrev pub ruin_places : Rounding → ℕ → List ℕ → ℕ → ℕ → ℕ → Row
ruin_places round income F tail chance top i = ruin_row round income F tail chance (top - i)

-- one value: nothing passes S × S, and the quotient is that of the row
pub product_fits : (F : List ℕ) (tail chance level weight : ℕ) → RuinTerms F tail chance → weight ≡ ruin_weight F tail level → chance * weight ≤ S * S
product_fits F tail chance level weight terms e = mul-le-mul terms.chance_fits (rw e (ruin_weight_fits F tail terms.weights_fit level))

pub ruin_value :
    (round : Rounding) (income : ℕ) (F : List ℕ) (tail chance top i weight value : ℕ) → weight ≡ ruin_weight F tail (top - i + income) → value ≡ quotient round (chance * weight) S →
    value ≡ ruin_places round income F tail chance top i
unfolding ruin_row
ruin_value round income F tail chance top i weight value e v = v ∙ ap (λ (w : ℕ). quotient round (chance * w) S) e

pub value_fits :
    (round : Rounding) (income : ℕ) (F : List ℕ) (tail chance top i value : ℕ) → RuinTerms F tail chance → value ≡ ruin_places round income F tail chance top i → value ≤ S
value_fits round income F tail chance top i value terms v = rw v (ruin_row_fits income F tail terms.weights_fit round chance terms.chance_fits (top - i))

-- each half of a workspace that is all 0
module _ (xs : List ℕ) (n half : ℕ) (zeros : xs ≡ replicate n 0) (whole : n ≡ 2 * half) where
  two_halves : xs ≡ replicate half 0 ++ replicate half 0
  two_halves =
      let twice : n ≡ half + half = omega arith in
      zeros ∙ ap (λ (m : ℕ). replicate m 0) twice ∙ sym (replicate-append-replicate half half 0)

  pub zeros_second : drop half xs ≡ replicate half 0
  zeros_second = ap (drop half) two_halves ∙ drop_at (replicate half 0) (replicate half 0) half (length-replicate half 0)
