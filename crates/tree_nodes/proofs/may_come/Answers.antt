-- `may_come` meets its contract.
use mathlib.Core.Path.{ap}
use Prim.Native.Nat.{ℕ}
use lib.Dec.{ltb}
use Rattle.tree_nodes.proofs.may_come.Goals as goal

pub returns : goal.returns
returns c = ap (λ (n : ℕ). ltb 0 n) c.product.ensures
