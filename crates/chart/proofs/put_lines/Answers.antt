use native.Mathlib.Omega.{arith}
use borrow.Author.Rules.{rules}
use Rattle.text.proofs.TextLaws.{appending_start, appending_room_each, appending_turn, appending_done}
use Rattle.report_lines.specs.Lines.{line_room}
use Rattle.chart.proofs.Laws.{opening_short}
use Rattle.chart.proofs.put_lines.Goals as goal

pub loop-v-init : goal.loop-v-init
loop-v-init c = appending_start (omega arith)

pub put_numbered-end-requires : goal.put_numbered-end-requires
put_numbered-end-requires c =
    omega (arith, appending_room_each c.loop-v.invariant line_room (λ v. opening_short v _ _) (search rules) (search rules))

pub loop-v-preserved : goal.loop-v-preserved
loop-v-preserved c =
    let put = c.put_numbered-end in
    appending_turn c.loop-v.invariant (search rules) put.auto.text
    (rw (← c.from-lower.ensures, ← c.from-upper.ensures) put.ensures)

pub returns : goal.returns
returns c = appending_done c.loop-v.invariant (search rules)

-- after the last opening
pub returns-2 : goal.returns-2
returns-2 c =
    let put = c.put_numbered-end in
    appending_done
    (appending_turn c.loop-v.invariant (search rules) put.auto.text (rw (← c.from-lower.ensures, ← c.from-upper.ensures) put.ensures))
    (search rules)
