-- `plan::check_plan` meets its contract: `Checks` puts its tests together as the table does.
use Prim.Native.Nat.{◌+◌}
use mathlib.Core.Bool.{cond}
use mathlib.Core.Path.{◌≡◌, sym, ap, ◌∙◌}
use native.Mathlib.Nat.{le_of_eq}
use native.Mathlib.Omega.{arith}
use borrow.Author.Tests.{lt-ltb, le-ltb}
use lib.ListN.{length, drop, length-take, length-drop}
use lib.Seq.{take_all}
use Rattle.std.proofs.lemmas.Result.{err_from_is_err_and}
use Rattle.model.specs.Scale.{S}
use Rattle.model.specs.Sums.{total}
use Rattle.model.specs.Plan.{row_length}
use Rattle.model.specs.Refusal.{HeadAccepted, plan_refusal}
use Rattle.model.proofs.RefusalNumbers.{not_accepted}
use Rattle.model.proofs.Facts.{head_facts}
use Rattle.plan.proofs.Checks.{survivable, by_head, by_length, by_chance, by_sum, by_tail}
use Rattle.plan.proofs.check_plan.Goals as goal
use Rattle.plan.proofs.check_plan.Goals.{In_ok-check_head, Else-row-row_length, Else-some_above, Else-sum_of-from, else-tail-gt0-via-then-tail-gt0+else-head-largest_level, else-tail-gt0-via-else-tail-gt0}

pub returns-in_err-check_head : goal.returns-in_err-check_head
returns-in_err-check_head c =
    let p = err_from_is_err_and c.from_residual.result c.from_residual.ensures.1 in
    let refused = c.in_err-check_head.ensures in
    rw (p.1, p.2) (refused ∙ sym (by_head _ _ (not_accepted _ _ refused)))

head_ok : (c : In_ok-check_head) → HeadAccepted c.args.head
head_ok c = sym c.in_ok-check_head.ensures

pub row_length-requires : goal.row_length-requires
row_length-requires c = head_ok (goal.at.row_length-requires c).In_ok-check_head

pub returns-then-row-row_length : goal.returns-then-row-row_length
returns-then-row-row_length c =
    sym (by_length _ _ (head_ok (goal.at.returns-then-row-row_length c).In_ok-check_head) (λ e. c.if-row-row_length.true (e ∙ sym c.row_length.ensures)))

-- the row is as long as the head says
row_is : (c : Else-row-row_length) → length c.args.row.now ≡ row_length c.args.head
row_is c = c.if-row-row_length.false ∙ c.row_length.ensures

pub returns-then-some_above : goal.returns-then-some_above
unfolding S
returns-then-some_above c =
    sym
    (by_chance _ _
    (head_ok (goal.at.returns-then-some_above c).In_ok-check_head)
    (row_is (goal.at.returns-then-some_above c).Else-row-row_length)
    (sym c.some_above.ensures ∙ c.if-some_above.true))

pub sum_of-requires : goal.sum_of-requires
sum_of-requires c =
    simp (length-take, length-drop)
    (omega (arith, head_facts _ (head_ok (goal.at.sum_of-requires c).In_ok-check_head), row_is (goal.at.sum_of-requires c).Else-row-row_length))

pub returns-then-sum_of-from : goal.returns-then-sum_of-from
unfolding S
returns-then-sum_of-from c =
    let a = c.args in
    let ok = head_ok (goal.at.returns-then-sum_of-from c).In_ok-check_head in
    let sized = row_is (goal.at.returns-then-sum_of-from c).Else-row-row_length in
    let summed : c.sum_of.result ≡ total (drop a.head.months a.row.now) = c.sum_of.ensures ∙ ap total (take_all _ _ (le_of_eq (length-drop a.head.months a.row.now))) in
    sym (by_sum _ _ ok sized (sym c.some_above.ensures ∙ c.if-some_above.false) _ summed (λ e. c.if-sum_of-from.true (e ∙ sym c.from.ensures)))

-- the weights add up, and the tail decides
tail_left : (c : Else-sum_of-from) → plan_refusal c.args.head c.args.row.now ≡ cond (survivable c.args.head c.args.row.now) 9 0
unfolding S
tail_left c =
    let a = c.args in
    let ok : HeadAccepted a.head = sym c.in_ok-check_head.ensures in
    let sized : length a.row.now ≡ row_length a.head = c.if-row-row_length.false ∙ c.row_length.ensures in
    let summed : c.sum_of.result ≡ total (drop a.head.months a.row.now) = c.sum_of.ensures ∙ ap total (take_all _ _ (le_of_eq (length-drop a.head.months a.row.now))) in
    by_tail _ _ ok sized (sym c.some_above.ensures ∙ c.if-some_above.false) _ summed (c.if-sum_of-from.false ∙ c.from.ensures)

pub largest_level-requires : goal.largest_level-requires
largest_level-requires c = omega (arith, (head_facts _ (head_ok (goal.at.largest_level-requires c).In_ok-check_head)).span_fits)

pub returns-then-head-largest_level : goal.returns-then-head-largest_level
returns-then-head-largest_level c =
    rw (
      tail_left (goal.at.returns-then-head-largest_level c).Else-sum_of-from,
      lt-ltb _ _ c.if-tail-gt0.true,
      ← c.largest_level.ensures,
      lt-ltb (c.args.head.sizes + 1) _ c.if-head-largest_level.true,
    )

pub returns : goal.returns
returns c =
    let left = tail_left (goal.at.returns c).Else-sum_of-from in
    elim c.else-tail-gt0.branch [
      | else-tail-gt0-via-then-tail-gt0+else-head-largest_level w ↦
          rw (left, lt-ltb _ _ w.if-tail-gt0.true, ← w.largest_level.ensures, le-ltb (c.args.head.sizes + 1) _ w.if-head-largest_level.false)
      | else-tail-gt0-via-else-tail-gt0 w ↦ rw (left, le-ltb _ _ w.if-tail-gt0.false)
    ]
