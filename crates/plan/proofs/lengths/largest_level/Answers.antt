-- `plan::lengths::largest_level` meets its contract: what it adds up is the definition.
use native.Mathlib.Omega.{arith}
use Rattle.model.specs.Levels.{largest_level}
use Rattle.plan.proofs.lengths.largest_level.Goals as goal

pub overflow_mul-result : goal.overflow_mul-result
unfolding largest_level
overflow_mul-result c = omega (arith, c.requires)

pub overflow_add-result : goal.overflow_add-result
unfolding largest_level
overflow_add-result c = omega (arith, c.requires)

pub returns : goal.returns
unfolding largest_level
returns c = omega arith
