-- `add` meets its contract: the parts lent are an accepted plan's weights and chances.
use mathlib.Core.Path.{sym}
use native.Mathlib.Omega.{arith}
use lib.Seq.{length-take-le}
use Rattle.model.proofs.Facts.{Facts, facts}
use Rattle.engine.proofs.AnswerLaws.{terms_lent}
use Rattle.test_vectors.proofs.sums.add.Goals as goal
use Rattle.test_vectors.proofs.sums.add.Goals.{Start}

known : (c : Start) → Facts c.args.head c.args.row.now
known c = facts c.args.head c.args.row.now c.requires

pub overflow_add-end : goal.overflow_add-end
overflow_add-end c = omega (arith, (known (goal.at.overflow_add-end c).Start).head)

pub offset_bounds-row-months : goal.offset_bounds-row-months
offset_bounds-row-months c = omega (arith, (known (goal.at.offset_bounds-row-months c).Start).head)

pub slice_bounds-list-start : goal.slice_bounds-list-start
slice_bounds-list-start c = omega (arith, (known (goal.at.slice_bounds-list-start c).Start).row_is)

pub slice_bounds-list-end : goal.slice_bounds-list-end
slice_bounds-list-end c = omega (arith, (known (goal.at.slice_bounds-list-end c).Start).row_is)

pub slice_bounds-list-end-2 : goal.slice_bounds-list-end-2
slice_bounds-list-end-2 c =
    sym (length-take-le c.min-values.result c.args.row.now (omega (arith, c.min-values.ensures, (known (goal.at.slice_bounds-list-end-2 c).Start).row_is)))

pub list-requires : goal.list-requires
list-requires c =
    terms_lent c.args.head c.args.row.now (known (goal.at.list-requires c).Start) c.min-values.result
