-- `rules::put_chances` meets its contract: the row fills with the parts of the chances.
use Prim.Native.Nat.{suc}
use Rattle.model.proofs.Filling.{Filling}
use Rattle.doubles.specs.Doubles.{parts}
use Rattle.sheet_values.specs.Rules.{chance as Rules·chance}
use Rattle.sheet_values.proofs.rules.put_chances.Given as goal

abbrev pub invariant-loop-i : goal.invariant-loop-i
invariant-loop-i l = Filling (λ k. parts (Rules·chance l.rule (suc k))) l.initial.row l.row l.i
