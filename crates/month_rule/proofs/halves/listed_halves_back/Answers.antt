-- `listed_halves_back` meets its contract: each half taken back, as it came back (`HalfLaws`).
use mathlib.Core.Path.{◌≡◌}
use mathlib.Core.List.{◌++◌}
use Prim.Native.Nat.{◌-◌}
use native.Mathlib.Omega.{arith}
use borrow.Rule.Slice.PartMut.{mid_of}
use lib.ListN.{length, drop, length-take}
use Rattle.month_rows.specs.Shapes.{rows_size}
use Rattle.month_rule.proofs.HalfLaws.{lower_rows, upper_rows, second_lent, first_half, second_half}
use Rattle.month_rule.proofs.halves.listed_halves_back.Goals as goal
use Rattle.month_rule.proofs.halves.listed_halves_back.Goals.{After-all_months_back}

pub slice_bounds-all_months_back-end-2 : goal.slice_bounds-all_months_back-end-2
slice_bounds-all_months_back-end-2 c = simp length-take (omega arith)

pub all_months_back-requires : goal.all_months_back-requires
all_months_back-requires c = record {
  rows_in = lower_rows c.args.shape c.args.halves.now c.requires.halves_in;
  chances_bound = c.requires.chances_bound;
  chances_fit = c.requires.chances_fit;
}

-- the second half as it is lent
second : (c : After-all_months_back) → let xs = c.args.halves.now in let half = rows_size c.args.shape in let halves = c.all_months_back.new.rows ++ drop half xs in mid_of half (length halves - half) halves ≡ drop half xs
second c =
    second_lent c.args.halves.now c.all_months_back.new.rows c.all_months_back.new.rows (rows_size c.args.shape) c.requires.halves_in.size c.all_months_back.auto.rows

pub all_months_back-requires-2 : goal.all_months_back-requires-2
all_months_back-requires-2 c = record {
  rows_in = rw (second (goal.at.all_months_back-requires-2 c).After-all_months_back) (upper_rows c.args.shape c.args.halves.now c.requires.halves_in);
  chances_bound = c.requires.chances_bound;
  chances_fit = c.requires.chances_fit;
}

pub returns : goal.returns
returns c =
    let last = c.all_months_back-2 in
    let first = c.all_months_back in
    let xs = c.args.halves.now in
    let half = rows_size c.args.shape in record { lower = rw (first_half xs first.new.rows last.new.rows half c.requires.halves_in.size first.auto.rows) first.ensures.values; upper = rw (second_half xs first.new.rows last.new.rows half c.requires.halves_in.size first.auto.rows) (rw (second (goal.at.returns c).After-all_months_back) at last.ensures.values) }
