-- `row_back` meets its contract. The invariant: the places passed are new and the rest is old (`Rewriting`), and from `first` on the list serves the
-- ranges still to come (`ListedFrom`).
use Prim.Native.Nat.{◌-◌, min}
use lib.ListN.{length}
use Rattle.claims.proofs.ListingLaws.{ListedFrom}
use Rattle.month_rows.proofs.RowLaws.{row_before, Rewriting}
use Rattle.month_rows.proofs.rows.row_back.Given as goal

abbrev pub invariant-loop-i : goal.invariant-loop-i
invariant-loop-i l = record {
  back : Rewriting l.initial.rows l.quiet (row_before l.round l.table.severity.now l.chance l.quiet l.claimed l.top l.live l.initial.rows) l.rows l.i;
  listed : ListedFrom l.table.severity.now l.table.sizes.now l.table.dense (min (l.top - l.i) (length l.table.severity.now)) l.first;
}
