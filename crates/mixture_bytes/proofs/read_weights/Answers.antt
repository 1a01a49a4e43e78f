use Rattle.mixture_bytes.proofs.WeightLaws.{weighing_more, weighing_done}
use Rattle.mixture_bytes.proofs.read_weights.Goals as goal

pub loop-i-preserved : goal.loop-i-preserved
loop-i-preserved c = weighing_more _ _ _ _ c.loop-i.invariant c.loop-i-test.true c.requires.0 _ c.big_endian.ensures.number

pub returns : goal.returns
returns c = record { read = weighing_done _ _ _ _ c.loop-i.invariant c.loop-i-test.false; sized = c.loop-i.invariant.long }
