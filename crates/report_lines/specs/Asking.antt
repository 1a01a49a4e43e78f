-- What asking the engine needs of a plan and a workspace, and what it leaves of the workspace.
use Rattle.std.specs.Prelude.{ℕ, zero, suc, ◌≤◌, max, ◌≡◌, List, length}
use Rattle.model.specs.declared.Head.{Head}
use Rattle.model.specs.declared.Question.{Question}
use Rattle.model.specs.Limits.{workspace_room}
use Rattle.model.specs.Memory.{zero_first}
use Rattle.model.specs.Refusal.{Accepted, workspace_needed}

-- What the engine needs to answer every question of a plan: the plan is accepted, and there is workspace for any question.
pub record Answerable (h : Head) (row workspace : List ℕ) : Type 0 where
  pub accepted : Accepted h row
  pub room : workspace_room ≤ length workspace

-- what one question needs of the workspace
abbrev pub question_needs : Head → Question → ℕ
question_needs h q = workspace_needed (record { head = h; question = q })

-- "After an answered question the needed part of the desk is all zero": the workspace after one question
abbrev pub workspace_left : Head → Question → List ℕ → List ℕ
workspace_left h q workspace = zero_first (question_needs h q) workspace

-- the largest of the numbers f 0 to f (n − 1), 0 for none
unfoldable pub largest_of : ℕ → (ℕ → ℕ) → ℕ
largest_of zero f = 0
largest_of (suc n) f = max (f n) (largest_of n f)

-- the workspace after any number of questions: 0 up to what they need, which no question passes, and past it as it was
pub record Cleared (needed : ℕ) (before after : List ℕ) : Type 0 where
  pub inside : needed ≤ workspace_room
  pub is : after ≡ zero_first needed before
