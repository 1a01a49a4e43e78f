-- A mixture, document 02's mix: "1 to 8 plans alike but for their chances, each with a weight, the weights adding to S".
use Rattle.std.specs.Prelude.{ℕ, Bool, false, not, ◌&&◌, ◌||◌, List, [], ◌∷◌, map, eqb}
use Rattle.numbers.specs.Same.{same}
use Rattle.model.specs.Scale.{S}
use Rattle.model.specs.Sums.{total, any}
use Rattle.model.specs.Plan.{Plan, horizon}

-- a plan with its weight
pub record Component : Type 0 where
  pub weight : ℕ
  pub plan : Plan

abbrev pub Components : Type 0
Components = List Component

abbrev pub weights_of : Components → List ℕ
weights_of cs = map (λ (c : Component). c.weight) cs

abbrev pub plans_of : Components → List Plan
plans_of cs = map (λ (c : Component). c.plan) cs

-- "alike but for their chances": whether two plans have the same months, opening, income, weights and over
unfoldable pub alike : Plan → Plan → Bool
alike p p' =
    eqb (horizon p) (horizon p')
    && eqb p.opening p'.opening
    && eqb p.income p'.income
    && same p.severity p'.severity
    && eqb p.tail p'.tail

-- "plans unlike elsewhere": some plan is not alike to the first
unfoldable pub unlike : List Plan → Bool
unlike [] = false
unlike (p ∷ ps) = any (λ p'. not (alike p p')) ps

-- 18 mix: "plans unlike elsewhere or mix weights that do not add to S"
unfoldable pub mixture_check : Components → ℕ × Bool
mixture_check cs = (18, unlike (plans_of cs) || not (eqb (total (weights_of cs)) S))
