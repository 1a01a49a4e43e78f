-- `next_plan` is safe and ends.
use mathlib.Core.Path.{sym}
use lib.Seq.{length-take-le}
use borrow.Author.Rules.{rules}
use Rattle.test_tables.proofs.next_plan.Goals as goal

pub slice_bounds-read_plan-end : goal.slice_bounds-read_plan-end
slice_bounds-read_plan-end c = sym (length-take-le _ _ (search rules))
