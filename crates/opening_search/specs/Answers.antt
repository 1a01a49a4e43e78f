-- What the call answers and leaves in lent memory, for every input.
use Rattle.std.specs.Prelude.{ℕ, ◌<◌, ◌≤◌, ◌≡◌, cond, List, eqb, length, Result, Ok, Err}
use Rattle.model.specs.declared.Head.{Head}
use Rattle.model.specs.declared.refusal.Refusal.{Refusal}
use Rattle.model.specs.declared.Question.TheVariants.{Survive}
use Rattle.model.specs.Plan.{Plan, plan_of, opened}
use Rattle.model.specs.Bounds.{lower, upper}
use Rattle.model.specs.Refusal.{refusal_number, survival_workspace}
use Rattle.engine.specs.Answers.{bounds_answer, answer}
use Rattle.model.specs.Memory.{cleared_after}
use Rattle.survival.specs.Openings.{opening_ask}
use Rattle.opening_search.specs.declared.LeastOpening.{LeastOpening}
use Rattle.opening_search.specs.Least.{least_opening}
use Rattle.opening_search.specs.Refusal.{target_refusal, least_refusal}

-- what the call answers in the paper's words: the refusal's number, 0 if there is none, or the least opening, with its bounds of survival in parts of 2^30
pub record LeastAnswer : Type 0 where
  pub refusal : ℕ
  pub opening : ℕ
  pub lower : ℕ
  pub upper : ℕ

-- what the call answers, so read
abbrev pub least_result : Result LeastOpening Refusal → LeastAnswer
least_result (Ok l) = record { refusal = 0; opening = l.opening; lower = l.bounds.lower; upper = l.bounds.upper }
least_result (Err r) = record { refusal = refusal_number r; opening = 0; lower = 0; upper = 0 }

-- the answer of a refusal
unfoldable pub refused : ℕ → LeastAnswer
refused number = record { refusal = number; opening = 0; lower = 0; upper = 0 }

-- "The answer shows the opening and its bounds": those of the plan with this opening
unfoldable pub found : Head → List ℕ → ℕ → LeastAnswer
found h row v = record { refusal = 0; opening = v; lower = lower p Survive; upper = upper p Survive }
  where
    p : Plan
    p = plan_of (opened h v) row

-- the call, over the plan's row and a workspace of the given length
unfoldable pub least_answer : Head → List ℕ → ℕ → ℕ → LeastAnswer
least_answer h row target room =
    cond (eqb number 0) (found h row (least_opening h row target)) (refused number)
  where
    number : ℕ
    number = least_refusal h row target room

-- the workspace after it: "left zero after an answer and after "none", the only refusal that writes", so wherever no check before that fits
abbrev pub least_workspace_after : Head → List ℕ → ℕ → List ℕ → List ℕ
least_workspace_after h row target workspace =
    cleared_after (target_refusal h row target (length workspace)) (survival_workspace h) workspace

-- That asking the plan with this opening, in the same room, is not refused and gives a lower bound below the target.
pub record Misses (h : Head) (row : List ℕ) (target room v : ℕ) : Type 0 where
  pub answered : (answer (opening_ask h v) row room).refusal ≡ 0
  pub below : (answer (opening_ask h v) row room).lower < target

-- What an answer says: its opening is allowed, its bounds are those of asking the plan with this opening, the lower one reaches the target, and "no smaller
-- one would do".
pub record Least (h : Head) (row : List ℕ) (target room : ℕ) (r : LeastAnswer) : Type 0 where
  pub allowed : r.opening ≤ h.opening
  pub asked : answer (opening_ask h r.opening) row room ≡ bounds_answer 0 r.lower r.upper
  pub enough : target ≤ r.lower
  pub smallest : (v : ℕ) → v < r.opening → Misses h row target room v
