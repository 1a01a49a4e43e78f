-- `calls::lend` is safe and ends: the lent part lies within the array. Assumes nothing.
use mathlib.Core.Path.{sym}
use lib.Seq.{length-take-le}
use borrow.Author.Rules.{rules}
use Rattle.test_vectors.proofs.calls.lend.Goals as goal

pub slice_bounds-call-end : goal.slice_bounds-call-end
slice_bounds-call-end g c = sym (length-take-le _ _ (search rules))
