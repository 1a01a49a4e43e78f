-- `claims_after` meets its contract, case by case.
use mathlib.Core.Path.{sym, ap, ◌∙◌}
use Rattle.model.specs.MonthRule.{rule_of}
use Rattle.plain_engine.specs.Steps.{left_after}
use Rattle.plain_engine.proofs.ValueLaws.{one_left}
use Rattle.plain_engine.proofs.steps.claims_after.Goals as goal

pub returns-in-Survive : goal.returns-in-Survive
unfolding left_after rule_of
returns-in-Survive c = sym (ap (λ q. left_after ((rule_of q).after_claim c.args.left)) c.in-Survive.is)

pub returns-in-Both : goal.returns-in-Both
unfolding rule_of
returns-in-Both c = c.saturating_sub.ensures ∙ one_left c.args.left ∙ sym (ap (λ q. left_after ((rule_of q).after_claim c.args.left)) c.in-Both.is)

pub returns-in-High : goal.returns-in-High
unfolding left_after rule_of
returns-in-High c = sym (ap (λ q. left_after ((rule_of q).after_claim c.args.left)) c.in-High.is)

pub returns-in-Low : goal.returns-in-Low
unfolding left_after rule_of
returns-in-Low c = sym (ap (λ q. left_after ((rule_of q).after_claim c.args.left)) c.in-Low.is)
