-- `opening_allowed` meets its contract, case by case.
use mathlib.Core.Path.{sym, ap}
use Rattle.model.specs.MonthRule.{opening_allowed}
use Rattle.questions.proofs.needs.opening_allowed.Goals as goal

pub returns-in-Survive : goal.returns-in-Survive
unfolding opening_allowed
returns-in-Survive c = sym (ap (λ q. opening_allowed q c.args.opening) c.in-Survive.is)

pub returns-in-Both : goal.returns-in-Both
unfolding opening_allowed
returns-in-Both c = sym (ap (λ q. opening_allowed q c.args.opening) c.in-Both.is)

pub returns-in-High : goal.returns-in-High
unfolding opening_allowed
returns-in-High c = sym (ap (λ q. opening_allowed q c.args.opening) c.in-High.is)

pub returns-in-Low : goal.returns-in-Low
unfolding opening_allowed
returns-in-Low c = sym (ap (λ q. opening_allowed q c.args.opening) c.in-Low.is)
