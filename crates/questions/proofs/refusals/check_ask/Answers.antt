-- `check_ask` meets its contract: the plan's checks, that of the question and that of the workspace, in turn.
use mathlib.Core.Path.{sym, ◌∙◌}
use native.Mathlib.Omega.{arith}
use Rattle.model.specs.Refusal.{outside, workspace_needed}
use Rattle.model.proofs.RefusalNumbers.{number_above_0, passed_on}
use Rattle.model.proofs.Facts.{accepted_head}
use Rattle.questions.proofs.RefusalLaws.{by_plan, by_asked, by_room, inside_limits}
use Rattle.questions.proofs.refusals.check_ask.Goals as goal

pub returns-in_err-check_plan : goal.returns-in_err-check_plan
returns-in_err-check_plan c =
    let a = c.args in
    passed_on _ _ c.from_residual.ensures.1
    ∙ by_plan a.ask.head a.row.now 10 (outside a.ask.question) (workspace_needed a.ask) a.room (omega arith) _ c.in_err-check_plan.ensures (number_above_0 _)

pub returns-in_err-check_question : goal.returns-in_err-check_question
returns-in_err-check_question c =
    let a = c.args in
    passed_on _ _ c.from_residual-in_err-check_question.ensures.1
    ∙ by_asked a.ask.head a.row.now 10 (outside a.ask.question) (workspace_needed a.ask) a.room (omega arith)
    (sym c.in_ok-check_plan.ensures) _ c.in_err-check_question.ensures (number_above_0 _)

pub check_room-requires-clause-head_accepted : goal.check_room-requires-clause-head_accepted
check_room-requires-clause-head_accepted c = accepted_head _ _ (sym c.in_ok-check_plan.ensures)

pub check_room-requires-clause-question_value : goal.check_room-requires-clause-question_value
check_room-requires-clause-question_value c = inside_limits 10 _ (omega arith) c.in_ok-check_question.ensures

pub returns : goal.returns
returns c =
    let a = c.args in
    by_room a.ask.head a.row.now 10 (outside a.ask.question) (workspace_needed a.ask) a.room (omega arith)
    (sym c.in_ok-check_plan.ensures) _ c.in_ok-check_question.ensures c.check_room.ensures
