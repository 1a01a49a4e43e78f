-- The months left fall by one. The loop's invariant: the sum so far is that of the sizes before.
use mathlib.Core.Path.{◌≡◌}
use Prim.Native.Nat.{◌-◌}
use lib.ListN.{length, take, drop}
use Rattle.model.specs.Sums.{sum}
use Rattle.plain_engine.proofs.ValueLaws.{rows_after, claim_term}
use Rattle.plain_engine.proofs.value.+value.Given as goal

abbrev pub decreases-value : goal.decreases-value
decreases-value l = length l.chances.now

abbrev pub invariant-loop-i : goal.invariant-loop-i
invariant-loop-i l =
    l.sum ≡ sum l.i (claim_term l.severity (rows_after l.round l.question l.severity (take (length l.chances - 1) (drop 1 l.chances)) l.fewer) l.level)
