-- `check` meets its contract: the plan's checks, then whether it is too large, then that of the question.
use mathlib.Core.Path.{refl, sym, ◌∙◌}
use mathlib.Core.Bool.{true}
use Rattle.model.specs.Refusal.{outside}
use Rattle.model.proofs.RefusalNumbers.{not_accepted, passed_on}
use Rattle.questions.proofs.RefusalLaws.{asked_decides}
use Rattle.plain_engine.proofs.Theorems.{plan_refused, large_refused, small_refused}
use Rattle.plain_engine.proofs.check.Goals as goal

pub returns-in_err-check_plan : goal.returns-in_err-check_plan
returns-in_err-check_plan c =
    let a = c.args in
    passed_on _ _ c.from_residual.ensures.1 ∙ plan_refused a.ask a.row.now _ c.in_err-check_plan.ensures (not_accepted _ _ refl)

pub returns-then-is_large : goal.returns-then-is_large
returns-then-is_large c =
    let a = c.args in
    asked_decides a.ask.head a.row.now 10 true true (sym c.in_ok-check_plan.ensures) refl
    ∙ large_refused a.ask a.row.now (sym c.is_large.ensures ∙ c.if-is_large.true)

pub returns : goal.returns
returns c =
    let a = c.args in
    c.check_question.ensures
    ∙ asked_decides a.ask.head a.row.now 10 (outside a.ask.question) (outside a.ask.question) (sym c.in_ok-check_plan.ensures) refl
    ∙ small_refused a.ask a.row.now (sym c.is_large.ensures ∙ c.if-is_large.false)
