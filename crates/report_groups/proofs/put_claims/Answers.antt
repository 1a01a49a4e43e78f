use native.Mathlib.Omega.{arith}
use borrow.Author.Rules.{rules}
use Rattle.text.proofs.TextLaws.{appending_start, appending_room_each, appending_turn, appending_done}
use Rattle.report_lines.specs.Lines.{line_room}
use Rattle.report_groups.proofs.GroupLaws.{claims_short}
use Rattle.report_groups.proofs.put_claims.Goals as goal

pub loop-k-init : goal.loop-k-init
loop-k-init c = appending_start (search rules)

pub put_numbered-end-requires : goal.put_numbered-end-requires
put_numbered-end-requires c =
    omega (arith, appending_room_each c.loop-k.invariant line_room (λ k. claims_short k _ _) (search rules) (search rules))

pub loop-k-preserved : goal.loop-k-preserved
loop-k-preserved c =
    let put = c.put_numbered-end in
    appending_turn c.loop-k.invariant (search rules) put.auto.text
    (rw (← c.from-low.ensures, ← c.from-high.ensures) put.ensures)

pub returns : goal.returns
returns c = appending_done c.loop-k.invariant (search rules)

-- after the last place
pub returns-2 : goal.returns-2
returns-2 c =
    let put = c.put_numbered-end in
    appending_done
    (appending_turn c.loop-k.invariant (search rules) put.auto.text (rw (← c.from-low.ensures, ← c.from-high.ensures) put.ensures))
    (search rules)
