-- What asking a mixture answers and leaves in lent memory, for every input.
use Rattle.std.specs.Prelude.{ℕ, List, length}
use Rattle.model.specs.declared.Question.{Question}
use Rattle.model.specs.Memory.{cleared_after}
use Rattle.model.specs.Refusal.{workspace_needed}
use Rattle.engine.specs.Answers.{Answer, bounds_answer}
use Rattle.mixture_plans.specs.declared.Mixture.{Mixture}
use Rattle.mixture_plans.specs.Rows.{components_of}
use Rattle.mixture_plans.specs.Refusal.{ask_of_one, mixture_ask_refusal}
use Rattle.mixture.specs.Bounds.{mixture_lower, mixture_upper}

-- the answer to a question about a mixture, over the plans' rows and a workspace of the given length
unfoldable pub mixture_answer : Mixture → Question → List ℕ → ℕ → Answer
mixture_answer m q row room =
    bounds_answer (mixture_ask_refusal m q row room) (mixture_lower (components_of m row) q) (mixture_upper (components_of m row) q)

-- and the workspace after it
abbrev pub mixture_workspace_after : Mixture → Question → List ℕ → List ℕ → List ℕ
mixture_workspace_after m q row workspace =
    cleared_after (mixture_ask_refusal m q row (length workspace)) (workspace_needed (ask_of_one m q)) workspace
