-- `listed_sum` meets its contract. The invariant: the sum so far and the sum over the rest of the list are the whole, which bounds the sum too.
use mathlib.Core.Path.{◌≡◌}
use mathlib.Core.List.{map}
use Prim.Native.Nat.{◌+◌}
use lib.ListN.{drop}
use Rattle.model.specs.Sums.{total}
use Rattle.claims.specs.Listing.{sum_term}
use Rattle.claims.proofs.sum.listed_sum.Given as goal

abbrev pub invariant-loop-x : goal.invariant-loop-x
invariant-loop-x l = record {
  passed : l.added.products ≡ l.x-index;
  whole : l.added.sum + total (map (sum_term l.severity l.after) (drop l.x-index l.sizes)) ≡ total (map (sum_term l.severity l.after) l.sizes);
}
