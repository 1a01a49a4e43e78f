-- `record::unpack` meets its contract: there are four bytes for each number.
use lib.ListN.{length}
use Rattle.test_mixtures.specs.Records.{number_at}
use Rattle.test_mixtures.proofs.StoreLaws.{Storing}
use Rattle.test_mixtures.proofs.record.unpack.Given as goal

abbrev pub invariant-loop-i : goal.invariant-loop-i
invariant-loop-i l = Storing (number_at l.bytes) (length l.initial.row) l.row l.i
