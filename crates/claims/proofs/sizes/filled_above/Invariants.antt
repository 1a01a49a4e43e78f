-- `filled_above` meets its contract. The invariant: the sizes listed and those still to come are the whole.
use Prim.Native.Nat.{◌≤◌}
use Rattle.claims.proofs.ListingLaws.{Listed}
use Rattle.claims.proofs.sizes.filled_above.Given as goal

abbrev pub invariant-loop-x : goal.invariant-loop-x
invariant-loop-x l = record { above : l.dense ≤ l.x; listed : Listed l.severity l.sizes l.count l.x }
