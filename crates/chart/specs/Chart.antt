-- The planner's chart: a line for each opening, from the plan's bytes and the definitions of the model alone.
use Rattle.std.specs.Prelude.{ℕ, ◌+◌, ◌*◌, cond, List, eqb, get_or}
use Rattle.model.specs.declared.Head.{Head}
use Rattle.model.specs.declared.Question.TheVariants.{Survive}
use Rattle.model.specs.Limits.{max_opening, row_room}
use Rattle.model.specs.Plan.{plan_of, opened}
use Rattle.model.specs.Format.{head_of, row_of}
use Rattle.model.specs.Bounds.{lower, upper}
use Rattle.model.specs.Refusal.{read_refusal}
use Rattle.text.specs.Text.{joined}
use Rattle.report_lines.specs.Lines.{opening_line, refused_line, line_room}

-- the line of an opening: the survival bounds of the plan with this opening
abbrev pub chart_line : Head → List ℕ → ℕ → List ℕ
chart_line h row v = opening_line v (lower (plan_of (opened h v) row) Survive) (upper (plan_of (opened h v) row) Survive)

-- Document 02: "The planner's chart needs survival at every opening from 0 to the plan's."
unfoldable pub chart_lines : Head → List ℕ → List ℕ
chart_lines h row = joined (h.opening + 1) (chart_line h row)

-- the chart of a plan's bytes: bytes that reading refuses have its number
unfoldable pub chart_of : List ℕ → List ℕ
chart_of bytes =
    cond (eqb (read_refusal bytes row_room) 0)
    (chart_lines (head_of bytes) (row_of bytes))
    (refused_line (read_refusal bytes row_room))

-- the line of an opening, from pairs of bounds as they lie in memory
abbrev pub pair_line : List ℕ → ℕ → List ℕ
pair_line bounds v = opening_line v (get_or bounds (2 * v) 0) (get_or bounds (2 * v + 1) 0)

-- room for the longest chart
abbrev pub text_room : ℕ
text_room = (max_opening + 1) * line_room
