use native.Mathlib.Omega.{arith}
use Rattle.count_row.proofs.CountLaws.{counting_rows_start, counting_rows_turn, counting_rows_end}
use Rattle.count_row.proofs.counts.count_rows.Goals as goal

pub loop-chance-init : goal.loop-chance-init
loop-chance-init c = rw c.first_rows-row.ensures (counting_rows_start c.args.chances.now)

pub loop-chance-preserved : goal.loop-chance-preserved
loop-chance-preserved c =
    let loop = c.loop-chance in
    rw c.month-row.ensures (counting_rows_turn c.args.chances.now c.requires loop.row loop.chance-index c.loop-chance-test.true loop.invariant)

pub returns : goal.returns
returns c =
    let loop = c.loop-chance in
    counting_rows_end c.args.chances.now loop.row loop.chance-index (omega arith) loop.invariant
