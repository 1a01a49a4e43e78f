-- `read_plan` is safe and ends: the row of an accepted head fits the room for one.
use mathlib.Core.Path.{sym}
use Prim.Native.Nat.{◌≤◌}
use native.Mathlib.Omega.{arith}
use lib.Seq.{length-take-le}
use Rattle.model.specs.Limits.{row_room}
use Rattle.model.specs.Refusal.{HeadAccepted}
use Rattle.model.proofs.Facts.{accepted_head, head_facts}
use Rattle.codec.proofs.PlanRead.{plan_read}
use Rattle.test_tables.proofs.read_plan.Goals as goal
use Rattle.test_tables.proofs.read_plan.Goals.{After-row_length-used, In-Ok}

head_ok : (c : In-Ok) → HeadAccepted c.in-Ok.plan.head
head_ok c = let plan = plan_read _ c.in-Ok.ensures in rw plan.head (accepted_head _ _ plan.accepted)

pub row_length-used-requires : goal.row_length-used-requires
row_length-used-requires c = head_ok (goal.at.row_length-used-requires c).In-Ok

-- `ok` is `head_ok`
fits : (c : After-row_length-used) → HeadAccepted c.in-Ok.plan.head → c.row_length-used.result ≤ row_room
fits c ok = let head = head_facts _ ok in omega (arith, c.row_length-used.ensures, head.months_fit, head.sizes_fit)

pub slice_bounds-row-end : goal.slice_bounds-row-end
slice_bounds-row-end c =
    let at = goal.at.slice_bounds-row-end c in
    omega (arith, fits at.After-row_length-used (head_ok at.In-Ok))

pub slice_bounds-print_survival-end : goal.slice_bounds-print_survival-end
slice_bounds-print_survival-end c =
    let at = goal.at.slice_bounds-print_survival-end c in
    sym (length-take-le _ _ (omega (arith, fits at.After-row_length-used (head_ok at.In-Ok))))
