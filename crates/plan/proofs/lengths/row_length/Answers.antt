-- `plan::lengths::row_length` meets its contract: the limits of a head keep the sum small.
use native.Mathlib.Omega.{arith}
use Rattle.model.proofs.Facts.{head_facts}
use Rattle.plan.proofs.lengths.row_length.Goals as goal

pub overflow_add-result : goal.overflow_add-result
overflow_add-result c = omega (arith, head_facts _ c.requires)

pub overflow_add-result-2 : goal.overflow_add-result-2
overflow_add-result-2 c = omega (arith, head_facts _ c.requires)

pub returns : goal.returns
returns c = omega arith
