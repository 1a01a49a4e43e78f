use Prim.Native.Nat.{◌+◌}
use mathlib.Core.Path.{sym, ap, ◌∙◌}
use native.Mathlib.Numerals.{add-one}
use native.Mathlib.Omega.{arith}
use lib.Ieee.{binary64, sub, mul}
use Rattle.model.proofs.Filling.{filling_none, filling_more, filling_done, map_one_to}
use Rattle.doubles.specs.Doubles.{parts}
use Rattle.doubles.proofs.RangeLaws.{literal_one}
use Rattle.sheet_values.specs.Rules.{weight as Rules·weight, weights}
use Rattle.sheet_values.proofs.RuleLaws.{weight_first, weight_next, weight_within}
use Rattle.sheet_values.proofs.rules.put_weights.Goals as goal

pub loop-place-init : goal.loop-place-init
loop-place-init c = (filling_none _ _, ap (λ o. sub binary64 o c.args.alpha) literal_one ∙ weight_first c.args.alpha)

pub parts-requires : goal.parts-requires
parts-requires c = rw c.loop-place.invariant.1 (weight_within _ c.requires (c.loop-place.place-index + 1))

pub loop-place-preserved : goal.loop-place-preserved
loop-place-preserved c =
    let alpha = c.args.alpha in
    let i = c.loop-place.place-index in (
      filling_more _ _ _ _ c.loop-place.invariant.0 _ (omega arith) (c.parts.ensures ∙ ap parts (c.loop-place.invariant.1 ∙ ap (Rules·weight alpha) (add-one i))),
      ap (λ w. mul binary64 w alpha) c.loop-place.invariant.1 ∙ weight_next alpha i,
    )

pub returns : goal.returns
unfolding weights
returns c = filling_done _ _ _ _ c.loop-place.invariant.0 (omega (arith, c.loop-place-test.false)) ∙ sym (map_one_to _ _)
