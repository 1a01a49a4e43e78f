-- `plan_bits::writing::bit` meets its contract: the fields of a plan, one after the other.
use Prim.Native.Nat.{◌-◌, ◌/◌}
use mathlib.Core.Path.{sym, ◌∙◌}
use native.Mathlib.Omega.{arith}
use Rattle.model.specs.Format.{months_width, opening_width, sizes_width, income_width, number_width}
use Rattle.plan_bits.proofs.PlanBits.{months_bit, opening_bit, sizes_bit, income_bit, number_bit, no_bit}
use Rattle.plan_bits.proofs.writing.bit.Goals as goal

pub returns-then-at-lt-MONTHS : goal.returns-then-at-lt-MONTHS
returns-then-at-lt-MONTHS c = c.digit.ensures ∙ sym (months_bit _ _ _ c.if-at-lt-MONTHS.true)

pub returns-then-after_months-lt-OPENING : goal.returns-then-after_months-lt-OPENING
returns-then-after_months-lt-OPENING c = c.digit-then-after_months-lt-OPENING.ensures ∙ sym (opening_bit _ _ _ c.if-at-lt-MONTHS.false c.if-after_months-lt-OPENING.true)

pub returns-then-after_opening-lt-SIZES : goal.returns-then-after_opening-lt-SIZES
returns-then-after_opening-lt-SIZES c =
    c.digit-then-after_opening-lt-SIZES.ensures ∙ sym (sizes_bit _ _ _ c.if-at-lt-MONTHS.false c.if-after_months-lt-OPENING.false c.if-after_opening-lt-SIZES.true)

pub returns-then-after_sizes-lt-INCOME : goal.returns-then-after_sizes-lt-INCOME
returns-then-after_sizes-lt-INCOME c =
    c.digit-then-after_sizes-lt-INCOME.ensures ∙ sym (income_bit _ _ _ c.if-at-lt-MONTHS.false c.if-after_months-lt-OPENING.false c.if-after_opening-lt-SIZES.false c.if-after_sizes-lt-INCOME.true)

pub overflow_cast-row : goal.overflow_cast-row
overflow_cast-row c =
    omega (
      arith,
      c.type_inv.row ((c.args.at - months_width - opening_width - sizes_width - income_width) / number_width),
    )

pub returns-then-i-row : goal.returns-then-i-row
returns-then-i-row c =
    c.digit-then-i-row.ensures ∙ sym (number_bit _ _ _ c.if-at-lt-MONTHS.false c.if-after_months-lt-OPENING.false c.if-after_opening-lt-SIZES.false c.if-after_sizes-lt-INCOME.false)

pub returns : goal.returns
returns c =
    sym (no_bit _ _ _ c.if-at-lt-MONTHS.false c.if-after_months-lt-OPENING.false c.if-after_opening-lt-SIZES.false c.if-after_sizes-lt-INCOME.false c.if-i-row.false)
