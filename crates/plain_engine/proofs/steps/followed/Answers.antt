-- `followed` meets its contract, case by case.
use mathlib.Core.Path.{sym, ap, ◌∙◌}
use Rattle.model.specs.MonthRule.{rule_of}
use Rattle.plain_engine.specs.Steps.{sizes_followed}
use Rattle.plain_engine.proofs.ValueLaws.{none_left, some_left}
use Rattle.plain_engine.proofs.steps.followed.Goals as goal

pub returns-in-Survive : goal.returns-in-Survive
unfolding sizes_followed rule_of
returns-in-Survive c = sym (ap (λ q. sizes_followed ((rule_of q).after_claim c.args.left) c.args.sizes) c.in-Survive.is)

pub returns-then-left-eq0 : goal.returns-then-left-eq0
unfolding rule_of
returns-then-left-eq0 c =
    let a = c.args in
    none_left a.left a.sizes c.if-left-eq0.true ∙ sym (ap (λ q. sizes_followed ((rule_of q).after_claim a.left) a.sizes) c.in-Both.is)

pub returns-else-left-eq0 : goal.returns-else-left-eq0
unfolding rule_of
returns-else-left-eq0 c =
    let a = c.args in
    some_left a.left a.sizes c.if-left-eq0.false ∙ sym (ap (λ q. sizes_followed ((rule_of q).after_claim a.left) a.sizes) c.in-Both.is)

pub returns-in-High : goal.returns-in-High
unfolding sizes_followed rule_of
returns-in-High c = sym (ap (λ q. sizes_followed ((rule_of q).after_claim c.args.left) c.args.sizes) c.in-High.is)

pub returns-in-Low : goal.returns-in-Low
unfolding sizes_followed rule_of
returns-in-Low c = sym (ap (λ q. sizes_followed ((rule_of q).after_claim c.args.left) c.args.sizes) c.in-Low.is)
