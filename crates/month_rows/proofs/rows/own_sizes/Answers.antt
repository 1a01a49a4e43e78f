-- `own_sizes` meets its contract, case by case.
use Rattle.month_rows.specs.Rows.{own_sizes}
use Rattle.month_rows.proofs.rows.own_sizes.Goals as goal

pub returns-then-tallied : goal.returns-then-tallied
unfolding own_sizes
returns-then-tallied c = rw c.if-tallied.true

pub returns-else-tallied : goal.returns-else-tallied
unfolding own_sizes
returns-else-tallied c = rw c.if-tallied.false
