-- `check` meets its contract: the plan's checks, that of the target and that of the workspace of survive, in turn.
use mathlib.Core.Path.{refl, sym, ◌∙◌}
use native.Mathlib.Omega.{arith}
use Rattle.model.specs.Refusal.{outside, survival_workspace, bounds_refusal}
use Rattle.model.proofs.RefusalNumbers.{number_above_0, passed_on}
use Rattle.model.proofs.Facts.{accepted_head}
use Rattle.questions.proofs.RefusalLaws.{by_plan, by_asked, by_room}
use Rattle.opening_search.specs.Refusal.{target_outside, target_checks}
use Rattle.opening_search.proofs.check.Goals as goal

pub returns-in_err-check_plan : goal.returns-in_err-check_plan
unfolding bounds_refusal target_checks
returns-in_err-check_plan c =
    let a = c.args in
    passed_on _ _ c.from_residual.ensures.1
    ∙ by_plan a.head a.row.now 14 (target_outside a.target) (survival_workspace a.head) a.room (omega arith) _ c.in_err-check_plan.ensures (number_above_0 _)

pub returns-in_err-check_target : goal.returns-in_err-check_target
unfolding bounds_refusal target_checks
returns-in_err-check_target c =
    let a = c.args in
    passed_on _ _ c.from_residual-in_err-check_target.ensures.1
    ∙ by_asked a.head a.row.now 14 (target_outside a.target) (survival_workspace a.head) a.room (omega arith)
    (sym c.in_ok-check_plan.ensures) _ c.in_err-check_target.ensures (number_above_0 _)

pub check_room-requires-clause-head_accepted : goal.check_room-requires-clause-head_accepted
check_room-requires-clause-head_accepted c = accepted_head _ _ (sym c.in_ok-check_plan.ensures)

pub check_room-requires-clause-question_value : goal.check_room-requires-clause-question_value
unfolding outside
check_room-requires-clause-question_value c = refl

pub returns : goal.returns
unfolding bounds_refusal target_checks
returns c =
    let a = c.args in
    by_room a.head a.row.now 14 (target_outside a.target) (survival_workspace a.head) a.room (omega arith)
    (sym c.in_ok-check_plan.ensures) _ c.in_ok-check_target.ensures c.check_room.ensures
