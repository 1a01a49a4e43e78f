-- `last_value` meets its contract, case by case.
use mathlib.Core.Path.{sym, ap, ◌∙◌}
use Rattle.model.specs.Scale.{S}
use Rattle.model.specs.MonthRule.{last_of}
use Rattle.plain_engine.proofs.ValueLaws.{none_unplaced, some_unplaced}
use Rattle.plain_engine.proofs.steps.last_value.Goals as goal

pub returns-in-Survive : goal.returns-in-Survive
unfolding S last_of
returns-in-Survive c = λ s. sym (ap (λ q. last_of q c.args.left s) c.in-Survive.is)

pub returns-then-left-eq0 : goal.returns-then-left-eq0
unfolding S last_of
returns-then-left-eq0 c = λ s.
    let a = c.args in
    none_unplaced a.left s c.if-left-eq0.true ∙ sym (ap (λ q. last_of q a.left s) c.in-Both.is)

pub returns-else-left-eq0 : goal.returns-else-left-eq0
unfolding last_of
returns-else-left-eq0 c = λ s.
    let a = c.args in
    some_unplaced a.left s c.if-left-eq0.false ∙ sym (ap (λ q. last_of q a.left s) c.in-Both.is)

pub returns-in-High : goal.returns-in-High
unfolding S last_of
returns-in-High c = λ s. sym (ap (λ q. last_of q c.args.left s) c.in-High.is)

pub returns-in-Low : goal.returns-in-Low
unfolding S last_of
returns-in-Low c = λ s. sym (ap (λ q. last_of q c.args.left s) c.in-Low.is)
