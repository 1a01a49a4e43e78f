-- What the function below the call needs and answers: the weighted sums of the plans' bounds.
use Rattle.std.specs.Prelude.{ℕ, ◌≡◌, List, length}
use Rattle.model.specs.declared.Question.{Question}
use Rattle.model.specs.Limits.{max_plans}
use Rattle.model.specs.Bounds.{lower, upper}
use Rattle.mixture_plans.specs.declared.Mixture.{Mixture}
use Rattle.mixture_plans.specs.Rows.{components_of}
use Rattle.mixture_plans.specs.Refusal.{mixture_ask_refusal}
use Rattle.mixture.specs.Bounds.{weighted_sum}

-- an ask that is not refused, of a mixture whose heads and weights are there
pub record Askable (m : Mixture) (q : Question) (row : List ℕ) (room : ℕ) : Type 0 where
  pub passes : mixture_ask_refusal m q row room ≡ 0
  pub heads_long : length m.heads ≡ max_plans
  pub weights_long : length m.weights ≡ max_plans

abbrev pub lower_sum : Mixture → Question → List ℕ → ℕ
lower_sum m q row = weighted_sum (λ p. lower p q) (components_of m row)

abbrev pub upper_sum : Mixture → Question → List ℕ → ℕ
upper_sum m q row = weighted_sum (λ p. upper p q) (components_of m row)
