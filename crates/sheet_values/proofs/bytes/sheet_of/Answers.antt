-- `bytes::sheet_of` meets its contract: a field for each of its numbers, and the rule of the first two doubles.
use mathlib.Core.Path.{◌∙◌}
use mathlib.Core.Bool.{cond}
use lib.Dec.{eqb}
use Rattle.sheet_values.specs.declared.ChanceRule.TheVariants.{Level, Ramp}
use Rattle.sheet_values.specs.Sheet.{number_at, sheet_rule, sheet_of}
use Rattle.sheet_values.proofs.bytes.sheet_of.Goals as goal

pub returns : goal.returns
unfolding sheet_of sheet_rule number_at
returns c =
    let kind = c.big_endian-kind.ensures.number in
    let first = c.double-first.ensures in
    let step = c.double-step.ensures in
    let rule = c.rule_of-rule.ensures ∙ (λ i. cond (eqb (kind i) 1) (Level (first i)) (Ramp (first i) (step i))) in
    λ i. record {
      rule = rule i;
      months = c.big_endian-months.ensures.number i;
      opening = c.big_endian-opening.ensures.number i;
      sizes = c.big_endian-sizes.ensures.number i;
      alpha = c.double-alpha.ensures i;
    }
