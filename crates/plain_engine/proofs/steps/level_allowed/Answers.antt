-- `level_allowed` meets its contract, case by case.
use mathlib.Core.Path.{sym, ap}
use Rattle.model.specs.MonthRule.{rule_of}
use Rattle.plain_engine.proofs.steps.level_allowed.Goals as goal

pub returns-in-Survive : goal.returns-in-Survive
unfolding rule_of
returns-in-Survive c = sym (ap (λ q. (rule_of q).allowed c.args.level) c.in-Survive.is)

pub returns-in-Both : goal.returns-in-Both
unfolding rule_of
returns-in-Both c = sym (ap (λ q. (rule_of q).allowed c.args.level) c.in-Both.is)

pub returns-in-High : goal.returns-in-High
unfolding rule_of
returns-in-High c = sym (ap (λ q. (rule_of q).allowed c.args.level) c.in-High.is)

pub returns-in-Low : goal.returns-in-Low
unfolding rule_of
returns-in-Low c = sym (ap (λ q. (rule_of q).allowed c.args.level) c.in-Low.is)
