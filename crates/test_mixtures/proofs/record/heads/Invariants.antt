-- `record::heads` meets its contract: a head for each plan that a mixture can have.
use Rattle.model.specs.Limits.{max_plans}
use Rattle.test_mixtures.specs.Records.{head_at}
use Rattle.test_mixtures.proofs.StoreLaws.{Storing}
use Rattle.test_mixtures.proofs.record.heads.Given as goal

abbrev pub invariant-loop-i : goal.invariant-loop-i
invariant-loop-i l = Storing (head_at l.words) max_plans l.heads l.i
