-- `plan_bits::reading::head_of` meets its contract: a field for each of its numbers.
use native.Mathlib.Omega.{arith}
use Rattle.model.specs.Format.{head_bits, head_of}
use Rattle.plan_bits.proofs.reading.head_of.Goals as goal

pub field-months-requires : goal.field-months-requires
unfolding head_bits
field-months-requires c = omega arith

pub field-opening-requires : goal.field-opening-requires
unfolding head_bits
field-opening-requires c = omega arith

pub field-sizes-requires : goal.field-sizes-requires
unfolding head_bits
field-sizes-requires c = omega arith

pub field-income-requires : goal.field-income-requires
unfolding head_bits
field-income-requires c = omega arith

pub returns : goal.returns
unfolding head_of
returns c =
    λ i. record {
      months = c.field-months.ensures i;
      opening = c.field-opening.ensures i;
      sizes = c.field-sizes.ensures i;
      income = c.field-income.ensures i;
    }
