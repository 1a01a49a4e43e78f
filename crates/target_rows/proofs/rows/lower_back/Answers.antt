use Prim.Native.Nat.{ℕ, ◌+◌, ◌*◌, ◌-◌, ◌<◌, ◌≤◌}
use mathlib.Core.Path.{◌≡◌, refl, sym, ap, ◌∙◌}
use native.Mathlib.Omega.{arith}
use borrow.Author.Count.{below_more}
use lib.ListN.{length, get_or, drop, replicate}
use Rattle.model.specs.declared.Rounding.TheVariants.{Down}
use Rattle.model.specs.declared.Question.TheVariants.{Survive}
use Rattle.model.specs.Scale.{S}
use Rattle.model.specs.Levels.{largest_level}
use Rattle.model.specs.Refusal.{outside}
use Rattle.month_rule.specs.Months.{TakenBack}
use Rattle.questions.specs.Needs.{shape_of}
use Rattle.target_rows.specs.Rows.{Walk, given_month}
use Rattle.target_rows.proofs.WalkLaws.{rows_in, top_in, month_before, month_inside, walking_start, walked, walking_on, giving_up, as_lent, walked_all, walked_end}
use Rattle.target_rows.proofs.rows.lower_back.Goals as goal
use Rattle.target_rows.proofs.rows.lower_back.Goals.{After-fill, After-month_back, At-loop-place, At-months, In-months, Start}

pub shape_of-shape-requires : goal.shape_of-shape-requires
unfolding outside
shape_of-shape-requires c = refl

-- what the walk takes, and the row's length as the invariant knows it
walk : (c : Start) → Walk (length c.args.row.now) c.args.income c.args.opening c.args.chances.now
walk c = c.requires.walk

same_width : (c : After-fill) → length c.fill.new.self ≡ length c.args.row.now
same_width c = c.fill.auto.self

wide : (c : After-fill) → let a = c.args in largest_level a.income a.opening (length a.chances.now) < length c.fill.new.self
wide c = omega (arith, (let same_width : length c.fill.new.self ≡ length c.args.row.now = c.fill.auto.self in same_width), (let walk : Walk (length c.args.row.now) c.args.income c.args.opening c.args.chances.now = c.requires.walk in walk).inside)

pub months-init : goal.months-init
unfolding S
months-init c =
    let a = c.args in
    record {
      walking = walking_start a.income a.table.now.severity.now a.opening a.chances.now a.target (length c.fill.new.self) (wide (goal.at.months-init c).After-fill) c.requires.target_nonzero.1 c.fill.new.self
          (c.fill.ensures.after (λ y e. e) ∙ ap (λ n. replicate n S) (sym (same_width (goal.at.months-init c).After-fill)));
      not_yet = refl;
    }

-- a month that is walked is one of the plan's
some-month : (c : In-months) → 0 < c.months.month
some-month c = omega (arith, c.months-test.true)

-- a month is one after those before it
again : (income month : ℕ) → 0 < month → income * (month - 1 + 1) ≡ income * month
again income month above = ap (λ (n : ℕ). income * n) (omega arith)

-- the level of a month at place 0 lies within the row
record Levels (income top month months width size : ℕ) : Type 0 where
  this : top < width
  some : 0 < income
  income_below : income ≤ top
  walked : month ≤ months
  row : size ≡ width

levels : (c : In-months) → let a = c.args in let loop = c.months in Levels a.income (a.opening + a.income * (loop.month - 1 + 1)) loop.month (length a.chances.now) (length c.fill.new.self) (length loop.row)
unfolding largest_level
levels c =
    let a = c.args in
    let loop = c.months in
    let back : loop.month - 1 + 1 ≡ loop.month = omega (arith, c.months-test.true) in
    rw back
    record {
      this =
          omega (arith, month_inside a.income a.table.now.severity.now a.opening a.chances.now a.target (length c.fill.new.self) (let wide : let a = c.args in largest_level a.income a.opening (length a.chances.now) < length c.fill.new.self = omega (arith, (let same_width : length c.fill.new.self ≡ length c.args.row.now = c.fill.auto.self in same_width), (let walk : Walk (length c.args.row.now) c.args.income c.args.opening c.args.chances.now = c.requires.walk in walk).inside) in wide) loop.month loop.invariant.walking.inside);
      some = (let walk : Walk (length c.args.row.now) c.args.income c.args.opening c.args.chances.now = c.requires.walk in walk).earns;
      income_below = omega (arith, month_before a.income a.opening loop.month (let some_month : 0 < c.months.month = omega (arith, c.months-test.true) in some_month));
      walked = loop.invariant.walking.inside;
      row = loop.invariant.walking.size;
    }

pub overflow_mul-top : goal.overflow_mul-top
overflow_mul-top c = omega (arith, (levels (goal.at.overflow_mul-top c).In-months).this)

pub overflow_add-top : goal.overflow_add-top
overflow_add-top c = omega (arith, (levels (goal.at.overflow_add-top c).In-months).this)

pub overflow_sub-last : goal.overflow_sub-last
overflow_sub-last c = omega (arith, (levels (goal.at.overflow_sub-last c).In-months).income_below)

pub overflow_add-top-in-months : goal.overflow_add-top-in-months
overflow_add-top-in-months c = omega (arith, (levels (goal.at.overflow_add-top-in-months c).In-months).this)

pub bounds-chances-month : goal.bounds-chances-month
bounds-chances-month c = omega (arith, some-month (goal.at.bounds-chances-month c).In-months, (levels (goal.at.bounds-chances-month c).In-months).walked)

-- the shape of the rows, by the length that the invariant knows
shape_is : (c : At-months) → c.shape_of-shape.result ≡ shape_of Survive (length c.fill.new.self) c.args.income
shape_is c = c.shape_of-shape.ensures ∙ ap (λ n. shape_of Survive n c.args.income) (sym (let same_width : length c.fill.new.self ≡ length c.args.row.now = c.fill.auto.self in same_width))

pub month_back-requires : goal.month_back-requires
month_back-requires c =
    let loop = c.months in
    let width = length c.fill.new.self in
    let shape = c.shape_of-shape.result in record {
      rows_in = rows_in shape width c.args.income loop.row (shape_is (goal.at.month_back-requires c).At-months) (walk (goal.at.month_back-requires c).Start).earns loop.invariant.walking.size loop.invariant.walking.parts;
      top_in = top_in shape width c.args.income (c.args.opening + c.args.income * (loop.month - 1 + 1)) (shape_is (goal.at.month_back-requires c).At-months) (omega (arith, (levels (goal.at.month_back-requires c).In-months).income_below)) (omega (arith, (levels (goal.at.month_back-requires c).In-months).this));
      chance_fits = (walk (goal.at.month_back-requires c).Start).chances_fit.each (loop.month - 1);
    }

-- the row that the month left is that of the months from it on
taken : (c : After-month_back) → let a = c.args in let t = c.months.month in let width = length c.fill.new.self in TakenBack Down a.table.now.severity.now (shape_of Survive width a.income) (largest_level a.income a.opening (t - 1)) (drop (t - 1) a.chances.now) (replicate width S) c.month_back.new.rows
unfolding largest_level
taken c =
    let a = c.args in
    let loop = c.months in
    let back : loop.month - 1 + 1 ≡ loop.month = omega (arith, c.months-test.true) in
    walked a.income a.table.now.severity.now a.opening a.chances.now a.target (length c.fill.new.self) (let wide : let a = c.args in largest_level a.income a.opening (length a.chances.now) < length c.fill.new.self = omega (arith, (let same_width : length c.fill.new.self ≡ length c.args.row.now = c.fill.auto.self in same_width), (let walk : Walk (length c.args.row.now) c.args.income c.args.opening c.args.chances.now = c.requires.walk in walk).inside) in wide) loop.month
    (let some_month : 0 < c.months.month = omega (arith, c.months-test.true) in some_month) loop.row loop.invariant.walking c.month_back.new.rows c.shape_of-shape.result (let shape_is : c.shape_of-shape.result ≡ shape_of Survive (length c.fill.new.self) c.args.income = c.shape_of-shape.ensures ∙ ap (λ n. shape_of Survive n c.args.income) (sym (let same_width : length c.fill.new.self ≡ length c.args.row.now = c.fill.auto.self in same_width)) in shape_is)
    (a.opening + a.income * (loop.month - 1 + 1)) (ap (λ (n : ℕ). a.opening + a.income * n) back) c.month_back.ensures.back c.month_back.ensures.beyond

pub overflow_add-place-end : goal.overflow_add-place-end
overflow_add-place-end c = omega (arith, (levels (goal.at.overflow_add-place-end c).In-months).this)

pub loop-place-init : goal.loop-place-init
loop-place-init c = record { inside = omega arith; below = λ i l. absurd (omega arith); not_yet = c.months.invariant.not_yet }

-- the places of the inner loop lie within the row
place_inside :
    (c : At-loop-place) → let a = c.args in let loop = c.months in
    Levels a.income (a.opening + a.income * (loop.month - 1 + 1)) loop.month (length a.chances.now) (length c.fill.new.self) (length loop.row) →
    c.loop-place.place < length c.month_back.new.rows
place_inside c level = omega (arith, c.loop-place.invariant.inside, level.this, level.row, level.some, c.month_back.auto.rows)

pub offset_bounds-row-place : goal.offset_bounds-row-place
offset_bounds-row-place c = omega (arith, place_inside (goal.at.offset_bounds-row-place c).At-loop-place (levels (goal.at.offset_bounds-row-place c).In-months))

pub bounds-row-place : goal.bounds-row-place
bounds-row-place c = place_inside (goal.at.bounds-row-place c).At-loop-place (levels (goal.at.bounds-row-place c).In-months)

pub loop-place-preserved : goal.loop-place-preserved
loop-place-preserved c = record {
  inside = omega (arith, c.loop-place.invariant.inside, c.if-place-last.false);
  below = below_more (λ i. get_or c.month_back.new.rows i 0 < c.args.target) c.loop-place.place c.loop-place.invariant.below c.if-target-row.false;
  not_yet = c.loop-place.invariant.not_yet;
}

pub months-preserved : goal.months-preserved
unfolding largest_level
months-preserved c =
    let a = c.args in
    let loop = c.months in
    let back : a.income * (loop.month - 1 + 1) ≡ a.income * loop.month = again a.income loop.month (some-month (goal.at.months-preserved c).In-months) in
    record {
      walking = walking_on a.income a.table.now.severity.now a.opening a.chances.now a.target (length c.fill.new.self) (wide (goal.at.months-preserved c).After-fill) loop.month
          (some-month (goal.at.months-preserved c).In-months) loop.row loop.invariant.walking c.month_back.new.rows (taken (goal.at.months-preserved c).After-month_back) c.month_back.auto.rows c.month_back.ensures.parts
          c.loop-place.place (omega (arith, c.loop-place.invariant.inside, month_before a.income a.opening loop.month (some-month (goal.at.months-preserved c).In-months), back)) c.if-target-row.true;
      not_yet = c.loop-place.invariant.not_yet;
    }

pub returns-after-months : goal.returns-after-months
returns-after-months c =
    let a = c.args in
    let width = length c.fill.new.self in
    let loop = c.months in
    let done : loop.month ≡ 0 = omega arith in
    let none : loop.month ≡ given_month loop.given_up-1 = done ∙ sym (ap given_month loop.invariant.not_yet) in record {
      given = rw none at (walked_all a.income a.table.now.severity.now a.opening a.chances.now a.target width loop.month loop.row done loop.invariant.walking);
      back = rw none at (as_lent a.income a.table.now.severity.now a.opening a.chances.now (loop.month - 1) width (length a.row.now) loop.row (same_width (goal.at.returns-after-months c).After-fill)
          (walked_end a.income a.table.now.severity.now a.opening a.chances.now a.target width loop.month loop.row done loop.invariant.walking));
    }

pub returns-then-place-last : goal.returns-then-place-last
unfolding largest_level
returns-then-place-last c =
    let a = c.args in
    let loop = c.months in
    let width = length c.fill.new.self in
    let above = some-month (goal.at.returns-then-place-last c).In-months in
    let this : loop.month - 1 + 1 ≡ loop.month = omega (arith, above) in
    let back : a.income * (loop.month - 1 + 1) ≡ a.income * loop.month = again a.income loop.month above in
    rw this
    record {
      given = giving_up a.income a.table.now.severity.now a.opening a.chances.now a.target width (wide (goal.at.returns-then-place-last c).After-fill) loop.month
          above loop.row loop.invariant.walking c.month_back.new.rows (taken (goal.at.returns-then-place-last c).After-month_back)
          (λ i l. below_more (λ i. get_or c.month_back.new.rows i 0 < a.target) c.loop-place.place c.loop-place.invariant.below c.if-target-row.false i (omega (arith, c.if-place-last.true, month_before a.income a.opening loop.month above, back)));
      back = as_lent a.income a.table.now.severity.now a.opening a.chances.now (loop.month - 1) width (length a.row.now) c.month_back.new.rows (same_width (goal.at.returns-then-place-last c).After-fill) (taken (goal.at.returns-then-place-last c).After-month_back);
    }
