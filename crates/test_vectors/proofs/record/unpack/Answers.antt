use native.Mathlib.Omega.{arith}
use Rattle.model.proofs.Filling.{filling_none, filling_more, filling_done}
use Rattle.test_vectors.specs.Records.{row_in}
use Rattle.test_vectors.proofs.record.unpack.Goals as goal

pub loop-i-init : goal.loop-i-init
loop-i-init c = filling_none _ _

pub loop-i-preserved : goal.loop-i-preserved
loop-i-preserved c = filling_more _ _ _ _ c.loop-i.invariant _ (omega (arith, c.loop-i.invariant.same)) c.number.ensures

pub shape_of-row : goal.shape_of-row
shape_of-row c = c.loop-i.invariant.same

pub returns : goal.returns
unfolding row_in
returns c = filling_done _ _ _ _ c.loop-i.invariant (omega (arith, c.loop-i.invariant.same))
