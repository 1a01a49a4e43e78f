-- `bounds_of` meets its contract: the value either way, taken as 0 where its level is forbidden.
use mathlib.Core.Path.{ap₂}
use Prim.Native.Nat.{ℕ}
use Rattle.model.specs.MonthRule.{kept}
use Rattle.tree_values.specs.Lines.{node_value}
use Rattle.tree_values.proofs.bounds_of.Goals as goal

pub returns : goal.returns
unfolding node_value kept
returns c =
    let allowed = c.node_allowed-allowed.ensures in
    rw (← allowed, ← c.value-lower.ensures, ← c.value-upper.ensures) (ap₂ (λ (low high : ℕ). record { lower = low; upper = high }) c.taken.ensures c.taken-2.ensures)
