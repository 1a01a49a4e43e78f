-- `weighted_sums` meets its contract. The loop's invariant: what the plans asked so far weigh together, and those that are left, are the whole.
use Rattle.mixture.proofs.SumLaws.{Mixing}
use Rattle.mixture.proofs.weighted_sums.Given as goal

abbrev pub invariant-loop-i : goal.invariant-loop-i
invariant-loop-i l = Mixing l.heads l.weights l.count l.row l.question l.initial.workspace l.i l.start l.lower l.upper l.workspace
