use borrow.Author.Rules.{rules}
use Rattle.text.proofs.TextLaws.{appending_room_each}
use Rattle.report_lines.specs.Lines.{line_room}
use Rattle.report_groups.proofs.GroupLaws.{putting_none, putting_more, putting_done}
use Rattle.report_groups.proofs.put_range.Goals as goal

pub loop-i-init : goal.loop-i-init
loop-i-init g c = putting_none (search rules)

pub put_question-end-requires-clause-answerable : goal.put_question-end-requires-clause-answerable
put_question-end-requires-clause-answerable g c = g.met.A.Asked.still _ _ _ _ c.requires.answerable c.loop-i.invariant.space

pub put_question-end-requires-clause-line_room_in_bounds : goal.put_question-end-requires-clause-line_room_in_bounds
put_question-end-requires-clause-line_room_in_bounds g c =
    appending_room_each c.loop-i.invariant.lines line_room (λ i. g.met.A.Asked.short _ _) (search rules) c.requires.lines_fit.room

pub loop-i-preserved : goal.loop-i-preserved
loop-i-preserved g c =
    let put = c.put_question-end in
    putting_more c.loop-i.invariant c.numbered.result c.numbered.ensures (search rules) put.auto.text put.ensures.written put.ensures.cleared

pub returns : goal.returns
returns g c = let both = putting_done c.loop-i.invariant (search rules) in record { written = both.0; cleared = both.1 }
