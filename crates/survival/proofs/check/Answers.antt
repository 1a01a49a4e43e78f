-- `check` meets its contract: the checks of the plan, then those of the two lengths.
use Prim.Native.Nat.{◌*◌}
use mathlib.Core.Path.{◌≡◌, refl, sym, ◌∙◌}
use native.Mathlib.Omega.{arith}
use Rattle.model.specs.Refusal.{Accepted, survival_workspace}
use Rattle.model.proofs.RefusalNumbers.{not_accepted, passed_on}
use Rattle.model.proofs.Facts.{HeadFacts, head_facts, accepted_head}
use Rattle.survival.proofs.Theorems.{needed_is, plan_refused, workspace_short, bounds_short, unrefused}
use Rattle.survival.proofs.check.Goals as goal
use Rattle.survival.proofs.check.Goals.{After-row_levels, In_ok-check_plan, then-room-row_levels-via-then-room-row_levels, then-room-row_levels-via-else-room-row_levels+then-places-opening}

pub returns-in_err-check_plan : goal.returns-in_err-check_plan
returns-in_err-check_plan c =
    let a = c.args in
    passed_on _ _ c.from_residual.ensures.1
    ∙ plan_refused a.head a.row.now a.room a.places _ c.in_err-check_plan.ensures (not_accepted _ _ refl)

accepted : (c : In_ok-check_plan) → let a = c.args in Accepted a.head a.row.now
accepted c = sym c.in_ok-check_plan.ensures

fits : (c : In_ok-check_plan) → HeadFacts c.args.head
fits c = head_facts _ (accepted_head _ _ (accepted c))

pub row_levels-requires : goal.row_levels-requires
row_levels-requires c = accepted_head _ _ (accepted (goal.at.row_levels-requires c).In_ok-check_plan)

-- what the workspace is held against
needed : (c : After-row_levels) → 2 * c.row_levels.result ≡ survival_workspace c.args.head
needed c = needed_is c.args.head c.row_levels.result c.row_levels.ensures

pub overflow_mul-row_levels : goal.overflow_mul-row_levels
overflow_mul-row_levels c = omega (arith, c.row_levels.ensures, (fits (goal.at.overflow_mul-row_levels c).In_ok-check_plan).span_fits)

pub overflow_add-opening : goal.overflow_add-opening
overflow_add-opening c = omega (arith, (fits (goal.at.overflow_add-opening c).In_ok-check_plan).opening_fits)

pub overflow_mul-opening : goal.overflow_mul-opening
overflow_mul-opening c = omega (arith, (fits (goal.at.overflow_mul-opening c).In_ok-check_plan).opening_fits)

pub returns-then-room-row_levels : goal.returns-then-room-row_levels
returns-then-room-row_levels c =
    let a = c.args in
    let plan = accepted (goal.at.returns-then-room-row_levels c).In_ok-check_plan in
    let size = needed (goal.at.returns-then-room-row_levels c).After-row_levels in
    elim c.then-room-row_levels.branch [
      | then-room-row_levels-via-then-room-row_levels w ↦ workspace_short a.head a.row.now a.room a.places plan (omega (arith, size, w.if-room-row_levels.true))
      | then-room-row_levels-via-else-room-row_levels+then-places-opening w ↦
          bounds_short a.head a.row.now a.room a.places plan (omega (arith, size, w.if-room-row_levels.false)) w.if-places-opening.true
    ]

pub returns : goal.returns
returns c =
    let a = c.args in
    sym
    (unrefused a.head a.row.now a.room a.places
    (record { accepted = accepted (goal.at.returns c).In_ok-check_plan; enough = omega (arith, needed (goal.at.returns c).After-row_levels, c.if-room-row_levels.false); wide = c.if-places-opening.false }))
