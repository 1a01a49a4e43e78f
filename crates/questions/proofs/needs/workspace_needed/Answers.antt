-- `workspace_needed` meets its contract: the rows are those of the shape, and an accepted head bounds their levels.
use mathlib.Core.Path.{◌≡◌, ap, ◌∙◌}
use Prim.Native.Nat.{◌*◌, ◌≤◌}
use native.Mathlib.Omega.{arith}
use Rattle.model.specs.Limits.{workspace_room}
use Rattle.model.specs.Refusal.{rows_needed, workspace_needed}
use Rattle.model.proofs.Facts.{head_facts}
use Rattle.model.proofs.Rooms.{workspace_fits}
use Rattle.questions.proofs.ShapeLaws.{shape_rows}
use Rattle.questions.proofs.needs.workspace_needed.Goals as goal
use Rattle.questions.proofs.needs.workspace_needed.Goals.{After-shape_of-shape}

pub overflow_mul-result : goal.overflow_mul-result
overflow_mul-result c = omega (arith, c.row_levels-width.ensures, (head_facts _ c.requires.head_accepted).span_fits)

needed_is : (c : After-shape_of-shape) → 2 * c.row_levels-width.result * c.shape_of-shape.result.rows ≡ workspace_needed c.args.ask
unfolding workspace_needed
needed_is c =
    let a = c.args.ask in
    let width = c.row_levels-width.result in
    ap (λ n. 2 * width * n) (ap (λ s. s.rows) c.shape_of-shape.ensures ∙ shape_rows a.question width a.head.income)
    ∙ ap (λ w. 2 * w * rows_needed a.question) c.row_levels-width.ensures

fits : (c : After-shape_of-shape) → workspace_needed c.args.ask ≤ workspace_room
fits c =
    workspace_fits c.args.ask c.requires.head_accepted c.requires.question_value

pub overflow_mul-result-2 : goal.overflow_mul-result-2
overflow_mul-result-2 c = omega (arith, needed_is (goal.at.overflow_mul-result-2 c).After-shape_of-shape, fits (goal.at.overflow_mul-result-2 c).After-shape_of-shape)

pub returns : goal.returns
returns c = needed_is (goal.at.returns c).After-shape_of-shape
