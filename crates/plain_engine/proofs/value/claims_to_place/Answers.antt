-- `claims_to_place` meets its contract, case by case.
use mathlib.Core.Path.{sym, ap}
use Rattle.model.specs.MonthRule.{claims_of}
use Rattle.plain_engine.proofs.value.claims_to_place.Goals as goal

pub returns-in-Survive : goal.returns-in-Survive
unfolding claims_of
returns-in-Survive c = sym (ap claims_of c.in-Survive.is)

pub returns-in-Both : goal.returns-in-Both
unfolding claims_of
returns-in-Both c = sym (ap claims_of c.in-Both.is)

pub returns-in-High : goal.returns-in-High
unfolding claims_of
returns-in-High c = sym (ap claims_of c.in-High.is)

pub returns-in-Low : goal.returns-in-Low
unfolding claims_of
returns-in-Low c = sym (ap claims_of c.in-Low.is)
