-- `check_ruin` meets its contract: the plan's checks, that of the month and that of the workspace of survive, in turn.
use mathlib.Core.Path.{◌≡◌, refl, sym, ap, ◌∙◌}
use native.Mathlib.Omega.{arith}
use Rattle.model.specs.Refusal.{outside, month_outside, survival_workspace}
use Rattle.model.proofs.RefusalNumbers.{number_above_0, passed_on}
use Rattle.model.proofs.Facts.{accepted_head}
use Rattle.questions.proofs.RefusalLaws.{by_plan, by_asked, by_room}
use Rattle.questions.proofs.refusals.check_ruin.Goals as goal

pub returns-in_err-check_plan : goal.returns-in_err-check_plan
returns-in_err-check_plan c =
    let a = c.args in
    passed_on _ _ c.from_residual.ensures.1
    ∙ by_plan a.head a.row.now 10 (month_outside a.head a.month) (survival_workspace a.head) a.room (omega arith) _ c.in_err-check_plan.ensures (number_above_0 _)

pub returns-in_err-check_month : goal.returns-in_err-check_month
returns-in_err-check_month c =
    let a = c.args in
    passed_on _ _ c.from_residual-in_err-check_month.ensures.1
    ∙ by_asked a.head a.row.now 10 (month_outside a.head a.month) (survival_workspace a.head) a.room (omega arith)
    (sym c.in_ok-check_plan.ensures) _ c.in_err-check_month.ensures (number_above_0 _)

pub check_room-requires-clause-head_accepted : goal.check_room-requires-clause-head_accepted
check_room-requires-clause-head_accepted c = accepted_head _ _ (sym c.in_ok-check_plan.ensures)

pub check_room-requires-clause-question_value : goal.check_room-requires-clause-question_value
unfolding outside
check_room-requires-clause-question_value c = refl

pub returns : goal.returns
returns c =
    let a = c.args in
    by_room a.head a.row.now 10 (month_outside a.head a.month) (survival_workspace a.head) a.room (omega arith)
    (sym c.in_ok-check_plan.ensures) _ c.in_ok-check_month.ensures c.check_room.ensures
