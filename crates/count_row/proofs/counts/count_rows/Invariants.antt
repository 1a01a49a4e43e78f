-- `count_rows` meets its contract. The invariant: the months still to come make the count row of the rows so far (`Counting`).
use Rattle.count_row.proofs.CountLaws.{Counting}
use Rattle.count_row.proofs.counts.count_rows.Given as goal

abbrev pub invariant-loop-chance : goal.invariant-loop-chance
invariant-loop-chance l = Counting l.chances l.row l.chance-index
