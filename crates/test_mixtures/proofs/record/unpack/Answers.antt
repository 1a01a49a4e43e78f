use mathlib.Core.Path.{refl}
use native.Mathlib.Omega.{arith}
use Rattle.test_mixtures.proofs.StoreLaws.{storing_none, storing_more, storing_done}
use Rattle.test_mixtures.proofs.record.unpack.Goals as goal

pub loop-i-init : goal.loop-i-init
loop-i-init c = storing_none _ _ _ refl

pub loop-i-preserved : goal.loop-i-preserved
loop-i-preserved c =
    let before = c.loop-i.invariant in
    storing_more _ _ _ _ before _ (omega (arith, before.long, c.loop-i-test.true)) c.number.ensures

pub shape_of-row : goal.shape_of-row
shape_of-row c = c.loop-i.invariant.long

pub returns : goal.returns
returns c =
    let end = c.loop-i.invariant in
    storing_done _ _ _ _ end (omega (arith, end.long, c.loop-i-test.false))
