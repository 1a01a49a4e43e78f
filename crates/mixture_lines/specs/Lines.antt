-- The report of a mixture, from its bounds and the lines of "The reserve report" alone.
use Rattle.std.specs.Prelude.{ℕ, ◌+◌, ◌*◌, ◌≤◌, ◌≡◌, List, ◌++◌, length}
use Rattle.model.specs.declared.Head.{Head}
use Rattle.model.specs.declared.Question.{Question}
use Rattle.model.specs.declared.Question.TheVariants.{Survive, Both, High, Low}
use Rattle.model.specs.Limits.{max_plans, workspace_room}
use Rattle.mixture_plans.specs.declared.Mixture.{Mixture}
use Rattle.mixture_plans.specs.Components.{Components}
use Rattle.mixture_plans.specs.Refusal.{MixtureAccepted, plans_head}
use Rattle.mixture.specs.Bounds.{mixture_lower, mixture_upper}
use Rattle.report_lines.specs.Lines.{head_line, bounds_line, head_room, line_room}
use Rattle.report_groups.specs.Groups.{group_lines, most_lines, groups_need}

-- "survive, both, high and low lines as the report does, with the mix's bounds"
unfoldable pub mixture_line : Components → Question → List ℕ
mixture_line cs q = bounds_line q (mixture_lower cs q) (mixture_upper cs q)

-- "Prints the head line of the plans, then survive, both, high and low lines"
unfoldable pub mixture_report : Head → Components → List ℕ
mixture_report h cs =
    head_line h
    ++ group_lines (mixture_line cs) h Survive
    ++ group_lines (mixture_line cs) h (Both 0)
    ++ group_lines (mixture_line cs) h (High 0)
    ++ group_lines (mixture_line cs) h (Low 0)

-- room for the longest report
abbrev pub mixture_text_room : ℕ
mixture_text_room = head_room + (most_lines Survive + most_lines (Both 0) + most_lines (High 0) + most_lines (Low 0)) * line_room

-- What answering every question of a mixture needs: it is accepted, its heads and weights are there, and there is workspace for any question.
pub record MixtureAnswerable (m : Mixture) (row workspace : List ℕ) : Type 0 where
  pub accepted : MixtureAccepted m row
  pub heads_long : length m.heads ≡ max_plans
  pub weights_long : length m.weights ≡ max_plans
  pub room : workspace_room ≤ length workspace

-- what its questions need of the workspace: "The desk is the question's on one plan."
abbrev pub mixture_needs : Mixture → ℕ
mixture_needs m = groups_need (plans_head m)
