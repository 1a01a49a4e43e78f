-- `check_mixture` meets its contract, check by check.
use mathlib.Core.Bool.{true, false}
use mathlib.Core.Path.{refl, sym, ◌∙◌}
use native.Mathlib.Omega.{arith}
use Rattle.mixture_plans.specs.Refusal.{Counted}
use Rattle.model.proofs.RefusalNumbers.{not_accepted, passed_on}
use Rattle.mixture_plans.proofs.CheckLaws.{counted, by_count, by_each, by_unlike, by_weights}
use Rattle.mixture_plans.proofs.check_mixture.Goals as goal
use Rattle.mixture_plans.proofs.check_mixture.Goals.{Else-count_is_outside, In_ok-check_each}

-- the count is within the limits
known : (c : Else-count_is_outside) → Counted c.args.mixture
known c =
    counted _ (sym c.count_is_outside.ensures ∙ c.if-count_is_outside.false) (omega arith) (omega arith)

pub returns-then-count_is_outside : goal.returns-then-count_is_outside
returns-then-count_is_outside c = sym (by_count _ _ (sym c.count_is_outside.ensures ∙ c.if-count_is_outside.true))

pub check_each-requires : goal.check_each-requires
check_each-requires c = known (goal.at.check_each-requires c).Else-count_is_outside

pub returns-in_err-check_each : goal.returns-in_err-check_each
returns-in_err-check_each c =
    let refused = c.in_err-check_each.ensures in
    passed_on _ _ c.from_residual.ensures.1
    ∙ by_each _ _ (sym c.count_is_outside.ensures ∙ c.if-count_is_outside.false) _ refused (not_accepted _ _ refl)

pub is_unlike-requires-clause-counted : goal.is_unlike-requires-clause-counted
is_unlike-requires-clause-counted c = known (goal.at.is_unlike-requires-clause-counted c).Else-count_is_outside

pub returns-then-is_unlike : goal.returns-then-is_unlike
returns-then-is_unlike c =
    by_unlike _ _ (sym c.count_is_outside.ensures ∙ c.if-count_is_outside.false) (known (goal.at.returns-then-is_unlike c).Else-count_is_outside) (sym c.in_ok-check_each.ensures) _
    c.is_unlike.ensures c.if-is_unlike.true

pub weights_add-requires : goal.weights_add-requires
weights_add-requires c = known (goal.at.weights_add-requires c).Else-count_is_outside

-- the weights decide
pub returns-then-not-weights_add : goal.returns-then-not-weights_add
returns-then-not-weights_add c =
    by_weights _ _ (sym c.count_is_outside.ensures ∙ c.if-count_is_outside.false) (known (goal.at.returns-then-not-weights_add c).Else-count_is_outside) (sym c.in_ok-check_each.ensures) _
    c.is_unlike.ensures c.if-is_unlike.false false (sym c.if-not-weights_add.true ∙ c.weights_add.ensures)

pub returns : goal.returns
returns c =
    by_weights _ _ (sym c.count_is_outside.ensures ∙ c.if-count_is_outside.false) (known (goal.at.returns c).Else-count_is_outside) (sym c.in_ok-check_each.ensures) _
    c.is_unlike.ensures c.if-is_unlike.false true (sym c.if-not-weights_add.false ∙ c.weights_add.ensures)
