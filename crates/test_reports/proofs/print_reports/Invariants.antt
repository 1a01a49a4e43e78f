-- `print_reports` is safe and ends: what is left of the input gets shorter with each plan. Assumes nothing.
use lib.ListN.{length}
use Rattle.test_reports.proofs.print_reports.Given as goal

abbrev pub decreases-loop-size : goal.decreases-loop-size
decreases-loop-size l = length l.plans
