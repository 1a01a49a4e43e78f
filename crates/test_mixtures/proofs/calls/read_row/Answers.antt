-- `calls::read_row` is safe and ends: the row fits, and four bytes for each number. Assumes nothing.
use mathlib.Core.Path.{sym}
use native.Mathlib.Omega.{arith}
use lib.ListN.{length-take}
use lib.Seq.{length-take-le}
use borrow.Author.Rules.{rules}
use Rattle.test_mixtures.proofs.calls.read_row.Goals as goal

pub slice_bounds-call_over-end : goal.slice_bounds-call_over-end
slice_bounds-call_over-end c = sym (length-take-le _ _ (search rules))

pub slice_bounds-call_over-end-2 : goal.slice_bounds-call_over-end-2
slice_bounds-call_over-end-2 c = sym (length-take-le _ _ (search rules))

pub call_over-requires : goal.call_over-requires
call_over-requires c = simp length-take (omega arith)
