-- `count_is_outside` meets its contract: the two tests.
use Rattle.mixture_plans.specs.Refusal.{count_outside}
use borrow.Author.Tests.{eq-eqb, ne_eqb}
use Rattle.mixture_plans.proofs.count_is_outside.Goals as goal

pub returns-then-count-eq0 : goal.returns-then-count-eq0
unfolding count_outside
returns-then-count-eq0 c = rw (eq-eqb _ 0 c.if-count-eq0.true)

pub returns-else-count-eq0 : goal.returns-else-count-eq0
unfolding count_outside
returns-else-count-eq0 c = rw (ne_eqb _ 0 c.if-count-eq0.false)
