use mathlib.Core.Path.{sym, ◌∙◌}
use native.Mathlib.Omega.{arith}
use Rattle.model.proofs.Filling.{filling_done, map_one_to}
use Rattle.sheet_values.specs.Rules.{chances}
use Rattle.sheet_values.proofs.RuleLaws.{chance_within}
use Rattle.sheet_values.proofs.rules.put_chances.Goals as goal

pub parts-requires : goal.parts-requires
parts-requires c = rw c.chance.ensures (chance_within _ _ c.requires.row_value c.loop-i.i (omega arith))

pub returns : goal.returns
unfolding chances
returns c = filling_done _ _ _ _ c.loop-i.invariant (omega (arith, c.loop-i-test.false)) ∙ sym (map_one_to _ _)
