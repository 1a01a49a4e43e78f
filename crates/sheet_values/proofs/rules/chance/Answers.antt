-- `rules::chance` meets its contract. A month's number is a double exactly.
use Prim.Native.Nat.{◌-◌, ◌^◌}
use mathlib.Core.Path.{sym, ap, ◌∙◌}
use native.Mathlib.Omega.{arith}
use lib.Dec.{le→leb}
use lib.Ieee.{in_float}
use Rattle.sheet_values.specs.Rules.{chance}
use Rattle.sheet_values.proofs.RuleLaws.{level_chance, ramp_chance}
use Rattle.sheet_values.proofs.rules.chance.Goals as goal

pub int_to_float-result : goal.int_to_float-result
int_to_float-result c =
    let month = c.args.month in
    unfold in_float in le→leb (month - 1) (2 ^ 53) (omega (arith, c.requires))

pub returns-in-Level : goal.returns-in-Level
returns-in-Level c =
    let month = c.args.month in
    sym (ap (λ rule. chance rule month) c.in-Level.is ∙ level_chance _ month)

pub returns-in-Ramp : goal.returns-in-Ramp
returns-in-Ramp c =
    let month = c.args.month in
    sym (ap (λ rule. chance rule month) c.in-Ramp.is ∙ ramp_chance _ _ month)
