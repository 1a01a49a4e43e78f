-- `codec::read_plan` meets its contract: what reading answers, and what it leaves of a blank row.
use mathlib.Core.Path.{refl, ap, ◌∙◌}
use Rattle.codec.specs.Answers.{plan_result}
use Rattle.model.proofs.RefusalNumbers.{not_accepted, handed_on}
use Rattle.codec.proofs.PlanRead.{plan_is, plan_refused}
use Rattle.codec.proofs.read_plan.Goals as goal

pub returns-in_err-head : goal.returns-in_err-head
returns-in_err-head c =
    let blank = c.blank-row in
    ap plan_result (handed_on _ _ c.from_residual.ensures.1)
    ∙ plan_refused _ blank.result _ blank.ensures.blank blank.ensures.sized (not_accepted c.in_err-head.field-0.0 _ refl) c.in_err-head.ensures.answer

pub returns : goal.returns
returns c =
    let blank = c.blank-row in
    plan_is _ blank.result _ _ blank.ensures.blank blank.ensures.sized c.in_ok-head.ensures.answer c.in_ok-head.ensures.memory
