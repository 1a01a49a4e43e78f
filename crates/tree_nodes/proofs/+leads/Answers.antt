-- The proof of the cycle of calls {leads}: what is found is found by a branch of the month.
use Prim.Native.Nat.{ℕ, ◌<◌}
use mathlib.Core.Path.{◌≡◌, refl, sym, ◌∙◌, ap, ap₂}
use mathlib.Core.Bool.{Bool, false, ◌&&◌}
use native.Mathlib.Omega.{arith}
use lib.ListN.{length, get_or, length-take}
use Rattle.std.proofs.Common.{rules, ltb, ◌*◌, ◌-◌, ◌+◌, below_more}
use Rattle.model.specs.Limits.{small_income}
use Rattle.model.specs.MonthRule.{rule_of}
use Rattle.model.specs.Scale.{S}
use Rattle.model.proofs.Values.{no_chances}
use Rattle.plain_engine.specs.Steps.{left_after}
use Rattle.plain_engine.proofs.ValueLaws.{followed_inside}
use Rattle.tree_nodes.proofs.NodeLaws.{claim_passes, and_false, onward, quiet_branch, claim_branch, no_branch, not_followed, followed_is, no_months}
use Rattle.tree_nodes.proofs.+leads.Goals as goal
use Rattle.tree_nodes.proofs.+leads.Goals.{In-loop-x, Else-is_empty, else-may_pass-via-then-may_pass+else-leads, else-may_pass-via-else-may_pass, else-may_come-via-then-may_come+else-leads-2, else-may_come-via-else-may_come}

-- a size that is followed has a weight, and leads to a level above 0
inside : (t : ℕ) (c : In-loop-x t) → (c.loop-x.x < c.args.node.level) × (c.loop-x.x < length c.args.severity.now)
inside t c =
    let a = c.args in
    let most = c.followed-most.result in
    let inside_row = followed_inside ((rule_of a.question).after_claim a.node.left) c.min.result a.severity.now a.node.level most c.min.ensures c.followed-most.ensures in
    (omega (arith, inside_row.level, c.loop-x-test.true), omega (arith, inside_row.all, length-take most a.severity.now, c.loop-x-test.true))

-- there is a month to come
months : (t : ℕ) (c : Else-is_empty t) → 0 < length c.args.chances.now
months t c = search rules

pub returns-then-is_empty : goal.returns-then-is_empty
returns-then-is_empty t c =
    let a = c.args in
    let ended : length a.chances.now < 1 = search rules in
    rw (no_chances a.chances.now ended)
    (c.eq.ensures ∙ no_months a.question a.severity.now a.month a.target.left a.target.level a.node.left a.node.level)

pub returns-then-not-node_allowed : goal.returns-then-not-node_allowed
returns-then-not-node_allowed t c =
    let a = c.args in
    sym
    (not_followed a.question a.severity.now a.month a.chances.now a.target.left a.target.level a.node.left a.node.level
    (months t (goal.at.returns-then-not-node_allowed t c).Else-is_empty) (sym c.node_allowed.ensures ∙ c.if-not-node_allowed.true))

pub returns-then-leads : goal.returns-then-leads
returns-then-leads t c =
    let a = c.args in
    followed_is a.question a.severity.now a.month a.chances.now a.target.left a.target.level a.node.left a.node.level
    (months t (goal.at.returns-then-leads t c).Else-is_empty) (sym c.node_allowed.ensures ∙ c.if-not-node_allowed.false)
    (quiet_branch a.question a.severity.now (get_or a.chances.now 0 0) (onward a.question a.severity.now a.month a.chances.now a.target.left a.target.level) a.node.left a.node.level
    (sym c.may_pass.ensures ∙ c.if-may_pass.true) (sym c.leads.ensures ∙ c.if-leads.true))

pub offset_bounds-severity-x : goal.offset_bounds-severity-x
offset_bounds-severity-x t c = omega (arith, inside t (goal.at.offset_bounds-severity-x t c).In-loop-x)

pub bounds-severity-x : goal.bounds-severity-x
bounds-severity-x t c = (inside t (goal.at.bounds-severity-x t c).In-loop-x).1

pub overflow_sub-after : goal.overflow_sub-after
overflow_sub-after t c = omega (arith, inside t (goal.at.overflow_sub-after t c).In-loop-x)

pub returns-then-leads-2 : goal.returns-then-leads-2
returns-then-leads-2 t c =
    let a = c.args in
    let next = onward a.question a.severity.now a.month a.chances.now a.target.left a.target.level in
    followed_is a.question a.severity.now a.month a.chances.now a.target.left a.target.level a.node.left a.node.level
    (months t (goal.at.returns-then-leads-2 t c).Else-is_empty) (sym c.node_allowed.ensures ∙ c.if-not-node_allowed.false)
    (claim_branch a.question a.severity.now (get_or a.chances.now 0 0) next a.node.left a.node.level c.followed-most.result c.min.result c.claims_after-fewer.result
    c.min.ensures c.followed-most.ensures c.claims_after-fewer.ensures c.loop-x.x c.loop-x-test.true
    (ap₂ (λ (x y : Bool). x && y) (sym c.may_come.ensures ∙ c.if-may_come.true) (sym c.leads-then-may_come.ensures ∙ c.if-leads-2.true)))

pub loop-x-preserved : goal.loop-x-preserved
loop-x-preserved t c =
    let a = c.args in
    let next = onward a.question a.severity.now a.month a.chances.now a.target.left a.target.level in
    let fewer = left_after ((rule_of a.question).after_claim a.node.left) in
    let here : claim_passes a.severity.now (get_or a.chances.now 0 0) next fewer a.node.level c.loop-x.x ≡ false =
    elim c.else-may_come.branch [
      | else-may_come-via-then-may_come+else-leads-2 w ↦ and_false _ _ (ap (λ (k : ℕ). next k (a.node.level - c.loop-x.x)) (sym c.claims_after-fewer.ensures) ∙ sym w.leads-then-may_come.ensures ∙ w.if-leads-2.false)
      | else-may_come-via-else-may_come w ↦ ap (λ (b : Bool). b && next fewer (a.node.level - c.loop-x.x)) (sym c.may_come.ensures ∙ w.if-may_come.false)
    ] in
    below_more _ _ c.loop-x.invariant here

pub returns : goal.returns
returns t c =
    let a = c.args in
    let next = onward a.question a.severity.now a.month a.chances.now a.target.left a.target.level in
    let quiet : (ltb 0 ((S - get_or a.chances.now 0 0) * S) && next a.node.left (a.node.level + small_income)) ≡ false =
    elim c.else-may_pass.branch [
      | else-may_pass-via-then-may_pass+else-leads w ↦ and_false _ _ (sym w.leads.ensures ∙ w.if-leads.false)
      | else-may_pass-via-else-may_pass w ↦ ap (λ (b : Bool). b && next a.node.left (a.node.level + small_income)) (sym c.may_pass.ensures ∙ w.if-may_pass.false)
    ] in
    followed_is a.question a.severity.now a.month a.chances.now a.target.left a.target.level a.node.left a.node.level
    (months t (goal.at.returns t c).Else-is_empty) (sym c.node_allowed.ensures ∙ c.if-not-node_allowed.false)
    (no_branch a.question a.severity.now (get_or a.chances.now 0 0) next a.node.left a.node.level c.followed-most.result c.min.result (left_after ((rule_of a.question).after_claim a.node.left))
    c.min.ensures c.followed-most.ensures refl quiet (λ i l. c.loop-x.invariant i (omega (arith, c.loop-x-test.false))))
