-- `plan_bits::format::byte_length` meets its contract.
use native.Mathlib.Omega.{arith}
use Rattle.model.specs.Format.{bit_length, byte_length, head_bits}
use Rattle.model.proofs.Facts.{head_facts}
use Rattle.plan_bits.proofs.format.byte_length.Goals as goal

pub overflow_add-result : goal.overflow_add-result
unfolding bit_length head_bits
overflow_add-result c = omega (arith, c.bit_length.ensures, head_facts _ c.requires)

pub returns : goal.returns
unfolding byte_length
returns c = omega arith
