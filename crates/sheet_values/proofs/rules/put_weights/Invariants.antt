-- `rules::put_weights` meets its contract: the row fills with the parts of the weights, each the next of the one before.
use Prim.Native.Nat.{suc, ◌+◌}
use mathlib.Core.Path.{◌≡◌}
use Rattle.model.proofs.Filling.{Filling}
use Rattle.doubles.specs.Doubles.{parts}
use Rattle.sheet_values.specs.Rules.{weight as Rules·weight}
use Rattle.sheet_values.proofs.rules.put_weights.Given as goal

abbrev pub invariant-loop-place : goal.invariant-loop-place
invariant-loop-place l =
    Filling (λ k. parts (Rules·weight l.alpha (suc k))) l.initial.row l.row l.place-index × (l.weight ≡ Rules·weight l.alpha (l.place-index + 1))
