-- `check_each` meets its contract. The loop's invariant: the plans passed are accepted, so that those that are left decide.
use mathlib.Core.Path.{◌≡◌}
use Prim.Native.Nat.{◌≤◌}
use lib.ListN.{length}
use Rattle.model.specs.Limits.{max_plans}
use Rattle.mixture_plans.proofs.RowLaws.{Checking}
use Rattle.mixture_plans.proofs.check_each.Given as goal

abbrev pub invariant-loop-i : goal.invariant-loop-i
invariant-loop-i l = (length l.heads ≡ max_plans) × ((l.count ≤ max_plans) × Checking l.heads l.row l.count l.i l.start)
