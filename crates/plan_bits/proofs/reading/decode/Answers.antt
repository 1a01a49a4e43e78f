use Prim.Native.Nat.{◌*◌}
use mathlib.Core.Path.{sym, ap, ◌∙◌}
use native.Mathlib.Omega.{arith}
use lib.ListN.{take}
use lib.Seq.{drop-drop}
use Rattle.model.specs.Format.{number_width, number, head_bits}
use Rattle.model.proofs.Filling.{filling_none, filling_more, filling_done}
use Rattle.plan_bits.proofs.Fields.{fields_are}
use Rattle.plan_bits.proofs.reading.decode.Goals as goal

pub loop-i-init : goal.loop-i-init
loop-i-init c = filling_none _ _

pub field-requires : goal.field-requires
unfolding head_bits
field-requires c = omega arith

pub loop-i-preserved : goal.loop-i-preserved
unfolding head_bits
loop-i-preserved c =
    filling_more _ _ _ _
    c.loop-i.invariant
    _
    (omega (arith, c.loop-i-test.true, c.loop-i.invariant.same))
    (c.field.ensures ∙ ap (λ l. number (take number_width l)) (sym (drop-drop (number_width * c.loop-i.i) head_bits _)))

pub shape_of-row : goal.shape_of-row
shape_of-row c = c.loop-i.invariant.same

pub returns : goal.returns
returns c = filling_done _ _ _ _ c.loop-i.invariant (omega (arith, c.loop-i-test.false, c.loop-i.invariant.same)) ∙ fields_are number_width _ _
