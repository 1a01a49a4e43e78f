-- What each call answers and leaves in lent memory, for every input: "A refusal gives its number, zero in each number it would have answered,
-- and changes no lent memory."
use Rattle.std.specs.Prelude.{ℕ, cond, List, eqb, length, Result, Ok, Err}
use Rattle.model.specs.declared.Head.{Head}
use Rattle.model.specs.declared.Ask.{Ask}
use Rattle.model.specs.declared.Bounds.{Bounds}
use Rattle.model.specs.declared.refusal.Refusal.{Refusal}
use Rattle.model.specs.Plan.{Plan, plan_of}
use Rattle.model.specs.Bounds.{lower, upper, ruin_lower, ruin_upper}
use Rattle.model.specs.Memory.{cleared_after}
use Rattle.model.specs.Refusal.{refusal_number, ask_refusal, ruin_refusal, workspace_needed, survival_workspace}

-- what a call that answers two bounds answers in the paper's words: the refusal's number, 0 if there is none, and the bounds in parts of 2^30
pub record Answer : Type 0 where
  pub refusal : ℕ
  pub lower : ℕ
  pub upper : ℕ

-- what the calls answer, so read
abbrev pub answer_result : Result Bounds Refusal → Answer
answer_result (Ok b) = record { refusal = 0; lower = b.lower; upper = b.upper }
answer_result (Err r) = record { refusal = refusal_number r; lower = 0; upper = 0 }

-- the answer of a refusal
unfoldable pub refused : ℕ → Answer
refused number = record { refusal = number; lower = 0; upper = 0 }

-- the answer of a call that has two bounds, from its refusal's number and these bounds
unfoldable pub bounds_answer : ℕ → ℕ → ℕ → Answer
bounds_answer number low high = cond (eqb number 0) (record { refusal = 0; lower = low; upper = high }) (refused number)

-- an ask, over the plan's row and a workspace of the given length
unfoldable pub answer : Ask → List ℕ → ℕ → Answer
answer a row room = bounds_answer (ask_refusal a row room) (lower p a.question) (upper p a.question)
  where
    p : Plan
    p = plan_of a.head row

-- and the workspace after it
abbrev pub workspace_after : Ask → List ℕ → List ℕ → List ℕ
workspace_after a row workspace = cleared_after (ask_refusal a row (length workspace)) (workspace_needed a) workspace

-- ruin in a month
unfoldable pub ruin_answer : Head → ℕ → List ℕ → ℕ → Answer
ruin_answer h t row room = bounds_answer (ruin_refusal h t row room) (ruin_lower p t) (ruin_upper p t)
  where
    p : Plan
    p = plan_of h row

abbrev pub ruin_workspace_after : Head → ℕ → List ℕ → List ℕ → List ℕ
ruin_workspace_after h t row workspace = cleared_after (ruin_refusal h t row (length workspace)) (survival_workspace h) workspace
