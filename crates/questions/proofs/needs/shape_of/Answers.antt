-- `shape_of` meets its contract, case by case; a question that is not outside has a small number.
use mathlib.Core.Path.{sym, ap, ◌∙◌}
use native.Mathlib.Omega.{arith}
use borrow.Author.Tests.{ltb-false}
use Rattle.model.specs.Limits.{max_claims, max_level}
use Rattle.model.specs.Refusal.{outside}
use Rattle.questions.specs.Needs.{shape_of}
use Rattle.questions.proofs.needs.shape_of.Goals as goal

pub overflow_add-result : goal.overflow_add-result
unfolding outside
overflow_add-result c = omega (arith, ltb-false max_claims c.in-Both.k (sym (ap outside c.in-Both.is) ∙ c.requires))

pub overflow_add-result-in-High : goal.overflow_add-result-in-High
unfolding outside
overflow_add-result-in-High c = omega (arith, ltb-false max_level c.in-High.level (sym (ap outside c.in-High.is) ∙ c.requires))

pub returns-in-Survive : goal.returns-in-Survive
unfolding shape_of
returns-in-Survive c = sym (ap (λ q. shape_of q c.args.width c.args.income) c.in-Survive.is)

pub returns-in-Both : goal.returns-in-Both
unfolding shape_of
returns-in-Both c = sym (ap (λ q. shape_of q c.args.width c.args.income) c.in-Both.is)

pub returns-in-High : goal.returns-in-High
unfolding shape_of
returns-in-High c = sym (ap (λ q. shape_of q c.args.width c.args.income) c.in-High.is)

pub returns-in-Low : goal.returns-in-Low
unfolding shape_of
returns-in-Low c = sym (ap (λ q. shape_of q c.args.width c.args.income) c.in-Low.is)
