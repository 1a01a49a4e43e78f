use mathlib.Core.Path.{ap, ◌∙◌}
use native.Mathlib.Omega.{arith}
use Rattle.model.specs.Format.{fields, filled_bits, bytes_of}
use Rattle.model.proofs.Facts.{accepted_head}
use Rattle.model.proofs.Rooms.{byte_length_fits, longest_between}
use Rattle.model.proofs.Filling.{filling_none, filling_more, filling_done}
use Rattle.plan_bits.proofs.Fields.{fields_are}
use Rattle.plan_bits.proofs.writing.encode.Goals as goal

pub loop-i-init : goal.loop-i-init
loop-i-init c = filling_none _ _

pub overflow_mul-i : goal.overflow_mul-i
overflow_mul-i c = omega (arith, longest_between, byte_length_fits _ (accepted_head _ _ c.requires.0))

pub byte-requires : goal.byte-requires
byte-requires c = (c.requires.0, omega arith)

pub loop-i-preserved : goal.loop-i-preserved
loop-i-preserved c = filling_more _ _ _ _ c.loop-i.invariant _ (omega (arith, c.loop-i-test.true, c.loop-i.invariant.same)) c.byte.ensures

pub shape_of-bytes : goal.shape_of-bytes
shape_of-bytes c = c.loop-i.invariant.same

pub returns : goal.returns
unfolding bytes_of
returns c =
    filling_done _ _ _ _ c.loop-i.invariant (omega (arith, c.loop-i-test.false, c.loop-i.invariant.same))
    ∙ fields_are 8 _ _
    ∙ ap (λ n. fields 8 n (filled_bits c.args.head c.args.row.now)) c.requires.1
