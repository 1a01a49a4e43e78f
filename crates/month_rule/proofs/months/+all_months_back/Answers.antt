-- The proof of the cycle of calls {all_months_back}: the chances get fewer. The first month stands on top of the months after it.
use Prim.Native.Nat.{ℕ, suc, ◌+◌, ◌-◌, ◌<◌, ◌≤◌}
use mathlib.Core.Path.{◌≡◌, ap}
use native.Mathlib.Omega.{arith}
use lib.ListN.{length, get_or, take, drop, length-drop}
use lib.Seq.{length-take-le}
use Rattle.model.specs.Levels.{largest_level}
use Rattle.model.proofs.LevelLaws.{level_next, level_from}
use Rattle.model.proofs.Values.{no_chances, first_and_rest}
use Rattle.month_rows.proofs.RowLaws.{parts_part}
use Rattle.month_rows.proofs.ManyRows.{row_fits, rows_in_again}
use Rattle.month_rule.proofs.AllMonths.{taken_back_none, taken_back_more}
use Rattle.month_rule.proofs.months.+all_months_back.Goals as goal
use Rattle.month_rule.proofs.months.+all_months_back.Goals.{Else-chances-lt1}

-- a month's income keeps within the rows
record Fits (income opening months width size : ℕ) : Type 0 where
  some-month : 0 < months
  levels : largest_level income (opening + income) (months - 1) < width
  first : opening + income < width
  row : width ≤ size

fits : (t : ℕ) (c : Else-chances-lt1 t) → let a = c.args in Fits a.shape.income a.opening (length a.chances.now) a.shape.width (length a.rows.now)
fits t c =
    let a = c.args in
    let n = length a.chances.now in
    let some : n ≡ suc (n - 1) = omega arith in
    let levels : largest_level a.shape.income (a.opening + a.shape.income) (n - 1) < a.shape.width = omega (arith, level_next a.shape.income a.opening (n - 1), ap (largest_level a.shape.income a.opening) some) in
    record {
      some-month = omega arith;
      levels = levels;
      first = omega (arith, level_from a.shape.income (a.opening + a.shape.income) (a.opening + a.shape.income) (n - 1) (omega arith));
      row = omega (arith, c.requires.rows_in.size, row_fits 0 a.shape.rows a.shape.width c.requires.rows_in.some);
    }

pub returns-then-chances-lt1 : goal.returns-then-chances-lt1
returns-then-chances-lt1 t c =
    let a = c.args in record { values = rw (no_chances a.chances.now (omega arith)) (taken_back_none a.round a.table.now.severity.now a.shape a.opening a.rows.now); parts = c.requires.rows_in.parts }

pub overflow_add-after : goal.overflow_add-after
overflow_add-after t c = omega (arith, (fits t (goal.at.overflow_add-after t c).Else-chances-lt1).first, (fits t (goal.at.overflow_add-after t c).Else-chances-lt1).row)

pub all_months_back-requires : goal.all_months_back-requires
all_months_back-requires t c =
    let a = c.args in
    let n = length a.chances.now in
    let fewer : length (take (n - 1) (drop 1 a.chances.now)) ≡ n - 1 = length-take-le (n - 1) (drop 1 a.chances.now) (omega (arith, length-drop 1 a.chances.now)) in
    (omega (arith, fewer, (fits t (goal.at.all_months_back-requires t c).Else-chances-lt1).some-month), (c.requires.rows_in, (rw fewer (fits t (goal.at.all_months_back-requires t c).Else-chances-lt1).levels, parts_part a.chances.now 1 (n - 1) c.requires.chances_fit)))

pub month_back-requires : goal.month_back-requires
month_back-requires t c =
    let a = c.args in
    record {
      rows_in = rows_in_again a.shape a.rows.now (c.all_months_back.new.rows) c.requires.rows_in (c.all_months_back.auto.rows) (c.all_months_back.ensures.parts);
      top_in = record { income_below = omega arith; inside = (fits t (goal.at.month_back-requires t c).Else-chances-lt1).first };
      chance_fits = c.requires.chances_fit.each 0;
    }

pub returns : goal.returns
returns t c =
    let first = c.month_back in
    let rest = c.all_months_back in
    let a = c.args in record {
      values = rw (first_and_rest a.chances.now (fits t (goal.at.returns t c).Else-chances-lt1).some-month)
          (taken_back_more a.round a.table.now.severity.now a.shape a.opening (get_or a.chances.now 0 0) (take (length a.chances.now - 1) (drop 1 a.chances.now))
          a.rows.now rest.new.rows first.new.rows rest.ensures.values first.ensures.back first.ensures.beyond);
      parts = first.ensures.parts;
    }
