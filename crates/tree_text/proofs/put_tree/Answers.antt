-- `put_tree` meets its contract, from the plan that is read.
use Prim.Native.Nat.{ℕ}
use mathlib.Core.Path.{◌≡◌, refl, ap, ◌∙◌}
use native.Mathlib.Omega.{arith}
use lib.ListN.{take}
use Rattle.model.specs.declared.Head.{Head}
use Rattle.model.specs.Plan.{row_length}
use Rattle.model.specs.Format.{row_of}
use Rattle.model.specs.Refusal.{HeadAccepted, first, head_checks}
use Rattle.model.proofs.Facts.{head_facts, accepted_head}
use Rattle.model.proofs.RefusalNumbers.{not_accepted}
use Rattle.codec.proofs.PlanRead.{PlanRead, plan_read, plan_unread}
use Rattle.text.proofs.TextLaws.{appended_as}
use Rattle.tree_text.proofs.TreeLaws.{part_refused, part_read, accepted_as, part_as}
use Rattle.tree_text.proofs.put_tree.Goals as goal
use Rattle.tree_text.proofs.put_tree.Goals.{In-Ok, After-row_length-used}

plan : (c : In-Ok) → PlanRead c.args.bytes.now c.in-Ok.plan
plan c = plan_read c.args.bytes.now c.in-Ok.ensures

head_ok : (c : In-Ok) → HeadAccepted c.in-Ok.plan.head
head_ok c = ap (λ (h : Head). first (head_checks h)) (plan c).head ∙ accepted_head _ _ (plan c).accepted

-- its row, as it is lent
row_is : (c : After-row_length-used) → PlanRead c.args.bytes.now c.in-Ok.plan → take c.row_length-used.result c.in-Ok.plan.row ≡ row_of c.args.bytes.now
row_is c read =
    ap (λ (n : ℕ). take n c.in-Ok.plan.row) (c.row_length-used.ensures ∙ ap row_length read.head) ∙ read.row

pub returns-in-Err : goal.returns-in-Err
returns-in-Err c =
    let a = c.args in
    let number = plan_unread a.bytes.now c.in-Err.refusal c.in-Err.ensures in
    appended_as (part_refused a.question a.bytes.now a.month _ number (not_accepted c.in-Err.refusal _ refl)) c.put_first.ensures

pub row_length-used-requires : goal.row_length-used-requires
row_length-used-requires c = head_ok (goal.at.row_length-used-requires c).In-Ok

pub shared_ref_as_front-put_plan : goal.shared_ref_as_front-put_plan
shared_ref_as_front-put_plan c = omega (arith, c.row_length-used.ensures, head_facts _ (head_ok (goal.at.shared_ref_as_front-put_plan c).In-Ok))

pub put_plan-requires-clause-accepted : goal.put_plan-requires-clause-accepted
put_plan-requires-clause-accepted c =
    let at = goal.at.put_plan-requires-clause-accepted c in
    let here = plan at.In-Ok in
    accepted_as here.head (row_is at.After-row_length-used here) here.accepted

pub returns : goal.returns
returns c =
    let at = goal.at.returns c in
    let here = plan at.In-Ok in
    let a = c.args in
    appended_as
    (part_read a.question a.bytes.now a.month here.none ∙ part_as a.question a.month here.head (row_is at.After-row_length-used here))
    c.put_plan.ensures
