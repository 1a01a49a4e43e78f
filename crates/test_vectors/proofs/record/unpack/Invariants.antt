-- `record::unpack` meets its contract: there are four bytes for each number.
use Prim.Native.Nat.{◌*◌}
use Rattle.model.proofs.Filling.{Filling}
use Rattle.test_vectors.specs.Records.{number_at}
use Rattle.test_vectors.proofs.record.unpack.Given as goal

abbrev pub invariant-loop-i : goal.invariant-loop-i
invariant-loop-i l = Filling (λ k. number_at l.bytes (4 * k)) l.initial.row l.row l.i
