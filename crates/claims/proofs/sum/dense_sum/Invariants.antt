-- `dense_sum` meets its contract. The invariant: the sum so far and the sum over the sizes below are the whole, which bounds the sum too.
use mathlib.Core.Path.{◌≡◌}
use Prim.Native.Nat.{◌+◌}
use Rattle.model.specs.Sums.{sum}
use Rattle.claims.specs.Listing.{sum_term}
use Rattle.claims.proofs.sum.dense_sum.Given as goal

abbrev pub invariant-loop-x : goal.invariant-loop-x
invariant-loop-x l = record {
  passed : l.added.products + l.x ≡ l.most;
  whole : l.added.sum + sum l.x (sum_term l.severity l.after) ≡ sum l.most (sum_term l.severity l.after);
}
