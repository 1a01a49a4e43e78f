-- `check_ask` meets its contract: the mixture's own checks, then those of what is asked.
use mathlib.Core.Path.{refl, sym, ◌∙◌}
use native.Mathlib.Omega.{arith}
use Rattle.model.proofs.RefusalNumbers.{not_accepted, passed_on}
use Rattle.questions.proofs.RefusalLaws.{inside_limits}
use Rattle.mixture_plans.proofs.CheckLaws.{mixture_facts, ask_refused, ask_outside, ask_room, head_accepted}
use Rattle.mixture_plans.proofs.check_ask.Goals as goal

pub returns-in_err-check_mixture : goal.returns-in_err-check_mixture
returns-in_err-check_mixture c =
    let refused = c.in_err-check_mixture.ensures in
    passed_on _ _ c.from_residual.ensures.1 ∙ ask_refused _ _ _ _ _ refused (not_accepted _ _ refl)

pub returns-in_err-check_question : goal.returns-in_err-check_question
returns-in_err-check_question c =
    let refused = c.in_err-check_question.ensures in
    passed_on _ _ c.from_residual-in_err-check_question.ensures.1
    ∙ ask_outside _ _ _ _ (sym c.in_ok-check_mixture.ensures) _ refused (not_accepted _ _ refl)

pub check_room-requires-clause-head_accepted : goal.check_room-requires-clause-head_accepted
check_room-requires-clause-head_accepted c = head_accepted _ _ (mixture_facts _ _ (omega arith) (omega arith) (sym c.in_ok-check_mixture.ensures))

pub check_room-requires-clause-question_value : goal.check_room-requires-clause-question_value
check_room-requires-clause-question_value c = inside_limits 10 _ (omega arith) c.in_ok-check_question.ensures

pub returns : goal.returns
returns c =
    c.check_room.ensures ∙ ask_room _ _ _ _ (sym c.in_ok-check_mixture.ensures) (inside_limits 10 _ (omega arith) c.in_ok-check_question.ensures)
