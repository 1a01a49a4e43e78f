-- `plan::check_head` meets its contract: each test is one of the table's.
use mathlib.Core.Path.{◌≡◌}
use mathlib.Core.Bool.{cond}
use native.Mathlib.Nat.{mul-le-mul}
use native.Mathlib.Omega.{arith}
use lib.Dec.{ltb}
use borrow.Author.Tests.{lt-ltb, le-ltb, eq-eqb, ne_eqb}
use Rattle.model.specs.Limits.{max_months, max_opening, max_sizes, max_income, max_span}
use Rattle.model.specs.Levels.{largest_level}
use Rattle.model.specs.Refusal.{first, head_checks}
use Rattle.model.proofs.Facts.{income_then_span}
use Rattle.plan.proofs.check_head.Goals as goal
use Rattle.plan.proofs.check_head.Goals.{After-largest_level, then-head-eq0-via-then-head-eq0, then-head-eq0-via-else-head-eq0+then-head-gt-SIZES, then-head-eq0-2-via-then-head-eq0-2, then-head-eq0-2-via-else-head-eq0-2+then-head-gt-INCOME}

pub returns-then-head-gt-MONTHS : goal.returns-then-head-gt-MONTHS
unfolding first head_checks
returns-then-head-gt-MONTHS c = simp (lt-ltb max_months _ c.if-head-gt-MONTHS.true)

pub returns-then-head-gt-OPENING : goal.returns-then-head-gt-OPENING
unfolding first head_checks
returns-then-head-gt-OPENING c = simp (le-ltb max_months _ c.if-head-gt-MONTHS.false, lt-ltb max_opening _ c.if-head-gt-OPENING.true)

pub returns-then-head-eq0 : goal.returns-then-head-eq0
unfolding first head_checks
returns-then-head-eq0 c =
    let months = le-ltb max_months _ c.if-head-gt-MONTHS.false in
    let opening = le-ltb max_opening _ c.if-head-gt-OPENING.false in
    elim c.then-head-eq0.branch [
      | then-head-eq0-via-then-head-eq0 w ↦ simp (months, opening, eq-eqb _ 0 w.if-head-eq0.true)
      | then-head-eq0-via-else-head-eq0+then-head-gt-SIZES w ↦ simp (months, opening, ne_eqb _ 0 w.if-head-eq0.false, lt-ltb max_sizes _ w.if-head-gt-SIZES.true)
    ]

pub returns-then-head-eq0-2 : goal.returns-then-head-eq0-2
returns-then-head-eq0-2 c =
    let late = income_then_span c.args.head c.if-head-gt-MONTHS.false c.if-head-gt-OPENING.false c.if-head-eq0.false c.if-head-gt-SIZES.false in
    elim c.then-head-eq0-2.branch [
      | then-head-eq0-2-via-then-head-eq0-2 w ↦ rw (late, eq-eqb _ 0 w.if-head-eq0-2.true)
      | then-head-eq0-2-via-else-head-eq0-2+then-head-gt-INCOME w ↦ rw (late, ne_eqb _ 0 w.if-head-eq0-2.false, lt-ltb max_income _ w.if-head-gt-INCOME.true)
    ]

pub largest_level-requires : goal.largest_level-requires
unfolding largest_level
largest_level-requires c =
    omega (arith, mul-le-mul c.if-head-gt-INCOME.false c.if-head-gt-MONTHS.false, c.if-head-gt-OPENING.false)

-- the span alone decides
span_left : (c : After-largest_level) → first (head_checks c.args.head) ≡ cond (ltb max_span c.largest_level.result) 17 0
span_left c =
    rw (
      income_then_span c.args.head c.if-head-gt-MONTHS.false c.if-head-gt-OPENING.false c.if-head-eq0.false c.if-head-gt-SIZES.false,
      ne_eqb _ 0 c.if-head-eq0-2.false,
      le-ltb max_income _ c.if-head-gt-INCOME.false,
      ← c.largest_level.ensures,
    )

pub returns-then-largest_level-gt-SPAN : goal.returns-then-largest_level-gt-SPAN
returns-then-largest_level-gt-SPAN c = rw (span_left (goal.at.returns-then-largest_level-gt-SPAN c).After-largest_level, lt-ltb max_span _ c.if-largest_level-gt-SPAN.true)

pub returns : goal.returns
returns c = rw (span_left (goal.at.returns c).After-largest_level, le-ltb max_span _ c.if-largest_level-gt-SPAN.false)
