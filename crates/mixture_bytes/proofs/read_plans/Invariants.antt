-- `read_plans` meets its contract. The loop's invariant: the plans read so far and those that are left are the whole.
use Rattle.mixture_bytes.proofs.ReadingLaws.{Reading}
use Rattle.mixture_bytes.proofs.read_plans.Given as goal

abbrev pub invariant-loop-i : goal.invariant-loop-i
invariant-loop-i l = Reading l.bytes l.count l.initial.row l.row l.heads l.i l.start l.used
