-- `is_unlike` meets its contract. The loop's invariant: the plans passed are alike to the first, so that those that are left decide.
use Rattle.model.specs.declared.Head.{Head}
use Rattle.mixture_plans.proofs.AlikeLaws.{Matching}
use Rattle.mixture_plans.proofs.is_unlike.Given as goal

abbrev pub no_head : Head
no_head = record { months = 0; opening = 0; sizes = 0; income = 0 }

abbrev pub invariant-loop-i : goal.invariant-loop-i
invariant-loop-i l = Matching l.heads l.row l.count no_head l.i l.start
