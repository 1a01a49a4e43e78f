use mathlib.Core.Path.{refl}
use Rattle.test_mixtures.proofs.StoreLaws.{storing_none, storing_more, storing_done}
use Rattle.test_mixtures.proofs.record.heads.Goals as goal

pub loop-i-init : goal.loop-i-init
loop-i-init c = storing_none _ _ _ refl

pub loop-i-preserved : goal.loop-i-preserved
loop-i-preserved c = storing_more _ _ _ _ c.loop-i.invariant _ c.loop-i-test.true c.head.ensures

pub returns : goal.returns
returns c = storing_done _ _ _ _ c.loop-i.invariant c.loop-i-test.false
