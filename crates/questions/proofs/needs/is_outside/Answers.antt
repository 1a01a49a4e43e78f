-- `is_outside` meets its contract, case by case.
use mathlib.Core.Path.{sym, ap}
use Rattle.model.specs.Refusal.{outside}
use Rattle.questions.proofs.needs.is_outside.Goals as goal

pub returns-in-Survive : goal.returns-in-Survive
unfolding outside
returns-in-Survive c = sym (ap outside c.in-Survive.is)

pub returns-in-Both : goal.returns-in-Both
unfolding outside
returns-in-Both c = sym (ap outside c.in-Both.is)

pub returns-in-High : goal.returns-in-High
unfolding outside
returns-in-High c = sym (ap outside c.in-High.is)

pub returns-in-Low : goal.returns-in-Low
unfolding outside
returns-in-Low c = sym (ap outside c.in-Low.is)
