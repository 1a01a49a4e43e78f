-- `format::read_from` is safe and ends: the lent part lies within the array. Assumes nothing.
use mathlib.Core.Path.{sym}
use lib.Seq.{length-take-le}
use borrow.Author.Rules.{rules}
use Rattle.test_vectors.proofs.format.read_from.Goals as goal

pub slice_bounds-read_into-end : goal.slice_bounds-read_into-end
slice_bounds-read_into-end c = sym (length-take-le _ _ (search rules))
