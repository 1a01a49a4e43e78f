use Prim.Native.Nat.{◌+◌, ◌*◌, ◌-◌}
use native.Mathlib.Omega.{arith}
use Rattle.month_rows.proofs.ManyRows.{forbidding_turn}
use Rattle.month_rows.proofs.rows.forbid_rows.Goals as goal

pub loop-j-preserved : goal.loop-j-preserved
loop-j-preserved c =
    let forbid = c.forbid in
    let loop = c.loop-j in
    let width = c.args.shape.width in
    forbidding_turn c.args.rows.now c.args.shape.rows width _ _ c.requires.0.size loop.rows forbid.new.row loop.j
    (loop.j * width + width - loop.j * width) (omega arith) c.loop-j-test.true loop.invariant forbid.auto.row forbid.ensures
