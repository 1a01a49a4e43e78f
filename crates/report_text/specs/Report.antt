-- "The reserve report", from its lines and the definitions of the model alone.
use Rattle.std.specs.Prelude.{ℕ, ◌+◌, ◌*◌, max, cond, List, ◌++◌, eqb}
use Rattle.model.specs.declared.Head.{Head}
use Rattle.model.specs.declared.Question.TheVariants.{Survive, Both, High, Low}
use Rattle.model.specs.Limits.{max_months, row_room}
use Rattle.model.specs.Plan.{Plan, plan_of}
use Rattle.model.specs.Format.{head_of, row_of}
use Rattle.model.specs.Refusal.{read_refusal}
use Rattle.report_groups.specs.Groups.{groups_need, claims_lines, group_lines, most_lines}
use Rattle.ruin_lines.specs.Lines.{ruins_need, ruin_lines}
use Rattle.report_lines.specs.Lines.{head_line, question_line, refused_line, head_room, line_room}

-- the report of an accepted plan
unfoldable pub plan_report : Head → List ℕ → List ℕ
plan_report h row =
    head_line h
    ++ group_lines (question_line p) h Survive
    ++ claims_lines p h.months
    ++ group_lines (question_line p) h (Both 0)
    ++ group_lines (question_line p) h (High 0)
    ++ group_lines (question_line p) h (Low 0)
    ++ ruin_lines p
  where
    p : Plan
    p = plan_of h row

-- room for the longest report
abbrev pub text_room : ℕ
text_room =
    head_room
    + (most_lines Survive + (max_months + 1) + most_lines (Both 0) + most_lines (High 0) + most_lines (Low 0) + (max_months + 1))
    * line_room

unfoldable pub report_of : List ℕ → List ℕ
report_of bytes =
    cond (eqb (read_refusal bytes row_room) 0)
    (plan_report (head_of bytes) (row_of bytes))
    (refused_line (read_refusal bytes row_room))

-- what the questions of a report need of the workspace: those of an accepted plan, group by group, and none of a refused one
abbrev pub plan_needs : Head → ℕ
plan_needs h = max (ruins_need h) (groups_need h)

unfoldable pub report_needs : List ℕ → ℕ
report_needs bytes = cond (eqb (read_refusal bytes row_room) 0) (plan_needs (head_of bytes)) 0
