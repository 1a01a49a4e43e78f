-- `read_weights` meets its contract. The loop's invariant: the weights read so far are the first ones.
use Rattle.mixture_bytes.proofs.WeightLaws.{Weighing}
use Rattle.mixture_bytes.proofs.read_weights.Given as goal

abbrev pub invariant-loop-i : goal.invariant-loop-i
invariant-loop-i l = Weighing l.bytes l.count l.weights l.i
