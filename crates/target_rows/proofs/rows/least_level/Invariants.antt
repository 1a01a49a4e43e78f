-- `least_level` meets its contract. The invariant: no level passed reaches the target.
use Prim.Native.Nat.{ℕ, ◌<◌}
use Rattle.claims.specs.Values.{from_top}
use Rattle.target_rows.proofs.rows.least_level.Given as goal

abbrev pub invariant-loop-level : goal.invariant-loop-level
invariant-loop-level l = (i : ℕ) → i < l.level → from_top l.top l.row i < l.target
