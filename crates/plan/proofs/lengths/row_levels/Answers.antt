-- `plan::lengths::row_levels` meets its contract: the largest level of any plan is small.
use native.Mathlib.Omega.{arith}
use Rattle.model.proofs.Facts.{head_facts}
use Rattle.plan.proofs.lengths.row_levels.Goals as goal

pub largest_level-requires : goal.largest_level-requires
largest_level-requires c = omega (arith, (head_facts _ c.requires).span_fits)

pub overflow_add-result : goal.overflow_add-result
overflow_add-result c = omega (arith, c.largest_level.ensures, (head_facts _ c.requires).span_fits)
