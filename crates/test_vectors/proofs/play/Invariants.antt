-- `test_vectors::play` is safe and ends: the row in use lies within the lent one. Assumes nothing.
use Prim.Native.Nat.{◌≤◌}
use lib.ListN.{length}
use Rattle.test_vectors.proofs.play.Given as goal

abbrev pub invariant-loop : goal.invariant-loop
invariant-loop l = l.used ≤ length l.row
