-- `last_halves` meets its contract: each half as it came back (`HalfLaws`).
use native.Mathlib.Omega.{arith}
use lib.ListN.{length-take}
use Rattle.month_rows.specs.Shapes.{rows_size}
use Rattle.month_rule.proofs.HalfLaws.{first_half, second_half, parts_both}
use Rattle.month_rule.proofs.halves.last_halves.Goals as goal

pub slice_bounds-last_rows-end-2 : goal.slice_bounds-last_rows-end-2
slice_bounds-last_rows-end-2 c = simp length-take (omega arith)

pub returns : goal.returns
returns c =
    let last = c.last_rows-2 in
    let first = c.last_rows in
    let xs = c.args.halves.now in
    let half = rows_size c.args.shape in record { lower = (λ top l k m s. rw (first_half xs first.new.rows last.new.rows half c.requires.1 first.auto.rows) (first.ensures.filled top l k m s)); upper = (λ top l k m s. rw (second_half xs first.new.rows last.new.rows half c.requires.1 first.auto.rows) (last.ensures.filled top l k m s)); parts = parts_both xs first.new.rows last.new.rows half c.requires.1 first.auto.rows first.ensures.parts last.ensures.parts }
