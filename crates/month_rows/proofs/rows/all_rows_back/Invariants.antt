-- `all_rows_back` meets its contract. The invariant: the rows before row j are new, the others as they were (`GoingBack`).
use mathlib.Core.Path.{◌≡◌}
use Prim.Native.Nat.{◌+◌}
use Rattle.month_rows.proofs.OneMonth.{rows_before, rows_left, GoingBack}
use Rattle.month_rows.proofs.rows.all_rows_back.Given as goal

abbrev pub invariant-loop-j : goal.invariant-loop-j
invariant-loop-j l = record {
  levels : l.live + l.income ≡ l.top + 1;
  back : GoingBack l.last l.width l.live (rows_before l.round l.income l.table.severity.now l.chance l.tallied (rows_left l.last l.width l.top l.initial.rows)) l.initial.rows l.rows l.j;
}
