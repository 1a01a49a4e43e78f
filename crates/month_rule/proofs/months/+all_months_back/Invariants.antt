-- The chances get fewer with each call.
use lib.ListN.{length}
use Rattle.month_rule.proofs.months.+all_months_back.Given as goal

abbrev pub decreases-all_months_back : goal.decreases-all_months_back
decreases-all_months_back l = length l.chances.now
