-- `lower_back` meets its contract. The invariants: the row is that of the months walked, and some level of each row so far reaches the target (`Walking`); no
-- place of the row that was passed does.
use mathlib.Core.Path.{◌≡◌}
use Prim.Native.Nat.{ℕ, ◌<◌, ◌≤◌}
use lib.ListN.{length, get_or}
use Rattle.std.specs.Prelude.{None}
use Rattle.target_rows.proofs.WalkLaws.{Walking}
use Rattle.target_rows.proofs.rows.lower_back.Given as goal

abbrev pub invariant-loop-place : goal.invariant-loop-place
invariant-loop-place l = record { inside : l.place ≤ l.last; below : (i : ℕ) → i < l.place → get_or l.row i 0 < l.target; not_yet : l.given_up ≡ None }

abbrev pub invariant-months : goal.invariant-months
invariant-months l = record { walking : Walking l.income l.table.severity.now l.opening l.chances l.target (length l.initial.row) l.month l.row; not_yet : l.given_up ≡ None }
