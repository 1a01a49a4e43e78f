-- `plan_bits::format::bit_length` meets its contract.
use native.Mathlib.Omega.{arith}
use Rattle.model.specs.Format.{bit_length, head_bits}
use Rattle.model.proofs.Facts.{head_facts}
use Rattle.plan_bits.proofs.format.bit_length.Goals as goal

pub overflow_mul-result : goal.overflow_mul-result
overflow_mul-result c = omega (arith, c.row_length.ensures, head_facts _ c.requires)

pub overflow_add-result : goal.overflow_add-result
overflow_add-result c = omega (arith, c.row_length.ensures, head_facts _ c.requires)

pub returns : goal.returns
unfolding bit_length head_bits
returns c = omega arith
