-- `write_all` meets its contract. The invariant: what was written so far, and the last answer, by which some of it was.
use Prim.Native.Nat.{◌-◌}
use lib.ListN.{length}
use Rattle.streams.specs.Reached.{answer_of}
use Rattle.streams.proofs.ReachedLaws.{Going}
use Rattle.streams.proofs.write_all.Given as goal

abbrev pub invariant-loop-written : goal.invariant-loop-written
invariant-loop-written g l = Going (length l.text) l.written (answer_of l.last)

abbrev pub decreases-loop-written : goal.decreases-loop-written
decreases-loop-written g l = length l.text - l.written
