-- The months left fall by one. The loop's invariant: no size that was passed leads to the target.
use Prim.Native.Nat.{ℕ, ◌<◌}
use mathlib.Core.Path.{◌≡◌}
use mathlib.Core.Bool.{false}
use lib.ListN.{length}
use Rattle.model.specs.MonthRule.{rule_of}
use Rattle.plain_engine.specs.Steps.{left_after}
use Rattle.tree_nodes.proofs.NodeLaws.{claim_passes, onward}
use Rattle.tree_nodes.proofs.+leads.Given as goal

abbrev pub decreases-leads : goal.decreases-leads
decreases-leads l = length l.chances.now

abbrev pub invariant-loop-x : goal.invariant-loop-x
invariant-loop-x l =
    (i : ℕ) → i < l.x →
    claim_passes l.severity l.chance (onward l.question l.severity l.month l.chances l.target.left l.target.level)
    (left_after ((rule_of l.question).after_claim l.left)) l.level i ≡ false
