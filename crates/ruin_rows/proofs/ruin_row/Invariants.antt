-- `ruin_row` meets its contract. The invariant: the places passed are new and the rest is old (`Rewriting`).
use Rattle.month_rows.proofs.RowLaws.{Rewriting}
use Rattle.ruin_rows.proofs.RuinLaws.{ruin_places}
use Rattle.ruin_rows.proofs.ruin_row.Given as goal

abbrev pub invariant-loop-i : goal.invariant-loop-i
invariant-loop-i l = Rewriting l.initial.row 0 (ruin_places l.round l.income l.severity l.tail l.chance l.top) l.row l.i
