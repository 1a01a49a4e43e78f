-- `report_text::put_accepted` meets its contract: the row of an accepted plan has the length that its head asks. Assumes nothing.
use mathlib.Core.Path.{sym}
use Rattle.model.proofs.Facts.{facts, accepted_head}
use borrow.Author.Rules.{rules}
use Rattle.report_text.proofs.put_accepted.Goals as goal

pub row_length-used-requires : goal.row_length-used-requires
row_length-used-requires c = accepted_head _ _ c.requires.answerable.accepted

pub slice_bounds-put_plan-end : goal.slice_bounds-put_plan-end
slice_bounds-put_plan-end c =
    rw c.row_length-used.ensures (sym (facts _ _ c.requires.answerable.accepted).row_is)

pub put_plan-requires : goal.put_plan-requires
put_plan-requires c = rw c.row_length-used.ensures (search rules)

pub returns : goal.returns
returns c = record { written = rw (← c.row_length-used.ensures) c.put_plan.ensures.written; cleared = c.put_plan.ensures.cleared }
