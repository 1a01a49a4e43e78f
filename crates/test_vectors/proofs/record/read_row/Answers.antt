-- `record::read_row` meets its contract: the row fits, and four bytes for each number. Assumes nothing.
use mathlib.Core.Path.{sym}
use native.Mathlib.Omega.{arith}
use lib.Seq.{length-take-le}
use lib.ListN.{length-take}
use borrow.Author.Rules.{rules}
use Rattle.test_vectors.proofs.record.read_row.Goals as goal

pub slice_bounds-read_numbers-end : goal.slice_bounds-read_numbers-end
slice_bounds-read_numbers-end c = sym (length-take-le _ _ (search rules))

pub slice_bounds-read_numbers-end-3 : goal.slice_bounds-read_numbers-end-3
slice_bounds-read_numbers-end-3 c = sym (length-take-le _ _ (search rules))

pub read_numbers-requires : goal.read_numbers-requires
read_numbers-requires c = simp length-take (omega arith)
