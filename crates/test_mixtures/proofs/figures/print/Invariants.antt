-- `figures::print` is safe and ends: the place falls. Assumes nothing.
use Rattle.test_mixtures.proofs.figures.print.Given as goal

abbrev pub invariant-loop-place : goal.invariant-loop-place
invariant-loop-place l = Unit {0}

abbrev pub decreases-loop-place : goal.decreases-loop-place
decreases-loop-place l = l.place
