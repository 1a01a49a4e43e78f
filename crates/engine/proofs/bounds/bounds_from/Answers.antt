-- `bounds_from` meets its contract: the last rows in memory are those of the rule, and each half's value stands at its first place (`taken_value`).
use mathlib.Core.Path.{◌≡◌, refl, sym, ap, ◌∙◌}
use mathlib.Core.List.{List}
use Prim.Native.Nat.{ℕ, ◌+◌, ◌*◌, ◌^◌, ◌<◌}
use native.Mathlib.Nat.{add-zero}
use native.Mathlib.Omega.{arith}
use lib.ListN.{length, replicate}
use lib.Seq.{get_or-drop, get_or-take}
use Rattle.model.specs.declared.Rounding.TheVariants.{Down, Up}
use Rattle.model.specs.Limits.{max_income}
use Rattle.model.specs.Levels.{largest_level}
use Rattle.month_rows.specs.Shapes.{rows_size}
use Rattle.month_rule.specs.Months.{HalvesIn}
use Rattle.month_rows.proofs.ManyRows.{row_fits}
use Rattle.month_rule.proofs.AllMonths.{taken_value}
use Rattle.engine.specs.LastRows.{last_rows}
use Rattle.engine.proofs.AnswerLaws.{some_row}
use Rattle.engine.proofs.bounds.bounds_from.Goals as goal
use Rattle.engine.proofs.bounds.bounds_from.Goals.{Start}

some : (c : Start) → 0 < c.args.shape.rows
some c = some_row c.args.last c.args.shape c.args.severity.now c.args.tail c.requires.last_fits

-- the largest level lies within the workspace, so that a machine number holds it and an income more
levels-small : (c : Start) → largest_level c.args.shape.income c.args.opening (length c.args.chances.now) + max_income < 2 ^ 64
levels-small c =
    omega (arith, c.requires.workspace_len.0, c.requires.workspace_len.1, row_fits 0 c.args.shape.rows c.args.shape.width (some c))

pub overflow_mul-top : goal.overflow_mul-top
unfolding largest_level
overflow_mul-top c = omega (arith, levels-small (goal.at.overflow_mul-top c).Start)

pub overflow_add-top : goal.overflow_add-top
unfolding largest_level
overflow_add-top c = omega (arith, levels-small (goal.at.overflow_add-top c).Start)

-- the level at place 0 of the last rows
top-is : (income opening : ℕ) (chances : List ℕ) → opening + income * length chances ≡ largest_level income opening (length chances)
unfolding largest_level
top-is income opening chances = refl

pub put_last-requires : goal.put_last-requires
unfolding largest_level
put_last-requires c =
    let small = levels-small (goal.at.put_last-requires c).Start in
    record { halves_len = (c.requires.workspace_len.0, c.requires.workspace_len.1, omega (arith, small, c.requires.income_nonzero.1)); last_fits = c.requires.last_fits }

pub halves_back-requires : goal.halves_back-requires
halves_back-requires c =
    let last = c.put_last in
    let halves : HalvesIn c.args.shape last.new.halves =
    record { some = some (goal.at.halves_back-requires c).Start; income_some = c.requires.income_nonzero.0; size = last.auto.halves ∙ c.requires.workspace_len.0; parts = last.ensures.parts } in
    record { halves_in = halves; chances_bound = c.requires.workspace_len.1; plan_terms = c.requires.plan_terms }

-- a half has a first place
some-place : (c : Start) → 0 < rows_size c.args.shape
some-place c = omega (arith, c.requires.workspace_len.1, row_fits 0 c.args.shape.rows c.args.shape.width (some c))

pub overflow_mul-shape : goal.overflow_mul-shape
overflow_mul-shape c =
    let size = c.halves_back.auto.halves ∙ c.put_last.auto.halves ∙ c.requires.workspace_len.0 in
    omega (arith, some-place (goal.at.overflow_mul-shape c).Start)

pub take_bounds-requires : goal.take_bounds-requires
take_bounds-requires c =
    let size = c.halves_back.auto.halves ∙ c.put_last.auto.halves ∙ c.requires.workspace_len.0 in
    let place = some-place (goal.at.take_bounds-requires c).Start in
    (omega arith, omega arith)

pub returns : goal.returns
returns c =
    let taken = c.take_bounds in
    let back = c.halves_back in
    let last = c.put_last in
    let a = c.args in
    let half = rows_size a.shape in
    let at_start = (goal.at.returns c).Start in
    let place = some-place at_start in
    let lower = taken_value Down a.severity.now a.shape a.opening a.chances.now _ _ back.ensures.lower (some at_start) (last_rows a.last Down a.shape.income a.severity.now a.tail) (rw (top-is a.shape.income a.opening a.chances.now) at last.ensures.lower.each) in
    let upper = taken_value Up a.severity.now a.shape a.opening a.chances.now _ _ back.ensures.upper (some at_start) (last_rows a.last Up a.shape.income a.severity.now a.tail) (rw (top-is a.shape.income a.opening a.chances.now) at last.ensures.upper.each) in
    record {
      lower = taken.ensures.taken.0 ∙ sym (get_or-take half back.new.halves 0 0 (omega arith)) ∙ lower;
      upper = taken.ensures.taken.1 ∙ sym (rw add-zero at (get_or-drop half back.new.halves 0 0)) ∙ upper;
      cleared = taken.ensures.cleared ∙ ap (λ n. replicate n 0) (back.auto.halves ∙ last.auto.halves);
    }
