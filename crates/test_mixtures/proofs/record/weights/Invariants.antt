-- `record::weights` meets its contract: the last half of each weight's word.
use Rattle.model.specs.Limits.{max_plans}
use Rattle.test_mixtures.specs.Records.{weight_at}
use Rattle.test_mixtures.proofs.StoreLaws.{Storing}
use Rattle.test_mixtures.proofs.record.weights.Given as goal

abbrev pub invariant-loop-i : goal.invariant-loop-i
invariant-loop-i l = Storing (weight_at l.words) max_plans l.weights l.i
