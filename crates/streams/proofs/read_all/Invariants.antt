-- `read_all` meets its contract. The invariant: what was read so far, the last answer, by which some of it was, and that the buffer keeps its length.
use Prim.Native.Nat.{◌-◌}
use mathlib.Core.Path.{◌≡◌}
use lib.ListN.{length}
use Rattle.streams.specs.Reached.{answer_of}
use Rattle.streams.proofs.ReachedLaws.{Going}
use Rattle.streams.proofs.read_all.Given as goal

abbrev pub invariant-loop-length : goal.invariant-loop-length
invariant-loop-length g l = Going (length l.initial.buffer) l.length (answer_of l.last) × (length l.buffer ≡ length l.initial.buffer)

abbrev pub decreases-loop-length : goal.decreases-loop-length
decreases-loop-length g l = length l.initial.buffer - l.length
