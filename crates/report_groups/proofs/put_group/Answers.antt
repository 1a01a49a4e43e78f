-- `put_group` meets its contract: a question's numbers are within the limits, and its lines within the room. Assumes nothing.
use borrow.Author.Rules.{rules}
use Rattle.model.proofs.Facts.{head_facts}
use Rattle.report_groups.proofs.GroupLaws.{range_fits}
use Rattle.report_groups.proofs.put_group.Goals as goal

pub put_range-requires-clause-lines_fit : goal.put_range-requires-clause-lines_fit
put_range-requires-clause-lines_fit g c =
    let known = head_facts _ (g.met.A.Asked.accepted _ _ c.requires.answerable) in
    rw (c.line_range-range.ensures, c.head.ensures) (range_fits _ _ known (search rules) c.requires.line_room_in_bounds)
