-- `forbid_rows` meets its contract. The invariant: the rows passed are forbidden, the others as they were (`Forbidding`).
use Rattle.month_rows.proofs.ManyRows.{Forbidding}
use Rattle.month_rows.proofs.rows.forbid_rows.Given as goal

abbrev pub invariant-loop-j : goal.invariant-loop-j
invariant-loop-j l = Forbidding l.initial.rows l.width l.first l.last l.rows l.j
