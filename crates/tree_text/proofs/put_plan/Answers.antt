-- `put_plan` meets its contract: refused by the plain engine, beyond the plan's months, or the nodes of the month.
use Prim.Native.Nat.{◌+◌, ◌-◌, ◌<◌, ◌≤◌}
use mathlib.Core.Path.{◌≡◌, refl, sym}
use native.Mathlib.Nat.{le_trans}
use native.Mathlib.Omega.{arith}
use lib.ListN.{length, get_or, take, drop}
use lib.Seq.{length-take-le}
use Rattle.model.specs.Limits.{max_small_months, max_sizes}
use Rattle.model.proofs.Facts.{facts, head_facts, accepted_head}
use Rattle.model.proofs.RefusalNumbers.{not_accepted}
use Rattle.plain_engine.specs.Answers.{plain_refusal}
use Rattle.plain_engine.proofs.Theorems.{Taken, taken}
use Rattle.text.proofs.TextLaws.{appended_none, appended_as}
use Rattle.tree_text.specs.Terms.{SmallTerms}
use Rattle.tree_text.proofs.TreeLaws.{accepted_refused, beyond_months, month_lent, terms_lent}
use Rattle.tree_text.proofs.RoomLaws.{month_room}
use Rattle.tree_text.proofs.put_plan.Goals as goal
use Rattle.tree_text.proofs.put_plan.Goals.{Else-months-month, In_default}

-- the plan is accepted by the plain engine, and has the month
not_refused : (c : In_default) → let a = c.args in plain_refusal (record { head = a.head; question = a.question }) a.row.now ≡ 0
not_refused c = sym c.in_default.ensures

known : (c : In_default) → let a = c.args in Taken (record { head = a.head; question = a.question }) a.row.now
known c = taken _ _ (not_refused c)

terms :
    (c : Else-months-month) → let a = c.args in
    Taken (record { head = a.head; question = a.question }) a.row.now →
    SmallTerms a.question a.head.opening (take a.head.months a.row.now) (take (a.head.months + a.head.sizes - a.head.months) (drop a.head.months a.row.now)) (get_or a.row.now (a.head.months + a.head.sizes) 0) a.month
terms c is = let a = c.args in terms_lent a.question a.head a.row.now a.month is c.if-months-month.false

-- the row has the chances, the weights and over
within : (c : In_default) → let a = c.args in a.head.months + a.head.sizes < length a.row.now
within c = omega (arith, (facts _ _ (known c).accepted).row_is)

small : (c : In_default) → let h = c.args.head in h.months + h.sizes ≤ max_small_months + max_sizes
small c = omega (arith, (known c).months_few, (head_facts _ (accepted_head _ _ (known c).accepted)).sizes_fit)

pub returns-in-Err : goal.returns-in-Err
returns-in-Err c =
    let a = c.args in
    appended_as (accepted_refused a.question a.head a.row.now a.month _ c.in-Err.ensures (not_accepted c.in-Err.refusal _ refl)) c.put_first.ensures

pub overflow_add-end : goal.overflow_add-end
overflow_add-end c = omega (arith, within (goal.at.overflow_add-end c).In_default)

pub returns-then-months-month : goal.returns-then-months-month
returns-then-months-month c =
    let a = c.args in
    appended_as (beyond_months a.question a.head a.row.now a.month (not_refused (goal.at.returns-then-months-month c).In_default) c.if-months-month.true) (appended_none a.text.now 0 (omega arith))

pub slice_bounds-put_month-end : goal.slice_bounds-put_month-end
slice_bounds-put_month-end c = let a = c.args in sym (length-take-le a.head.months a.row.now (omega (arith, within (goal.at.slice_bounds-put_month-end c).In_default)))

pub offset_bounds-row-months : goal.offset_bounds-row-months
offset_bounds-row-months c = omega (arith, (known (goal.at.offset_bounds-row-months c).In_default).months_few)

pub slice_bounds-put_month-end-2 : goal.slice_bounds-put_month-end-2
slice_bounds-put_month-end-2 c = omega (arith, within (goal.at.slice_bounds-put_month-end-2 c).In_default)

pub offset_bounds-row-end : goal.offset_bounds-row-end
offset_bounds-row-end c = omega (arith, small (goal.at.offset_bounds-row-end c).In_default)

pub bounds-row-end : goal.bounds-row-end
bounds-row-end c = within (goal.at.bounds-row-end c).In_default

pub put_month-requires : goal.put_month-requires
put_month-requires c =
    let at = goal.at.put_month-requires c in
    let here = terms at.Else-months-month (known at.In_default) in
    record { small_terms = here; month_in_bounds = le_trans (month_room here) c.requires.text_room_in_bounds }

pub returns : goal.returns
returns c =
    let a = c.args in
    appended_as (month_lent a.question a.head a.row.now a.month (not_refused (goal.at.returns c).In_default) c.if-months-month.false) c.put_month.ensures
