-- The proof of the cycle of calls {value}: a value is that of its month, over the values that it asks for.
use Prim.Native.Nat.{ℕ, ◌+◌, ◌*◌, ◌-◌, ◌/◌, ◌%◌, ◌<◌, ◌≤◌}
use mathlib.Core.Path.{◌≡◌, refl, sym, ap, ◌∙◌}
use native.Mathlib.Nat.{div-add-mod'}
use native.Mathlib.Omega.{arith}
use lib.ListN.{length, take, drop}
use Rattle.model.specs.Scale.{S}
use Rattle.model.specs.Sums.{sum}
use Rattle.model.specs.MonthRule.{claim_sum, claimed_row, values, rule_of}
use Rattle.model.specs.Limits.{small_income}
use Rattle.model.proofs.Values.{no_chances}
use Rattle.plain_engine.proofs.ValueLaws.{Inside, followed_inside, rows_after, claim_term, followed_sum, term_is, summing_turn, fewer_months, later_terms, row_fits, sum_fits, level_is, value_is}
use Rattle.plain_engine.proofs.value.+value.Goals as goal
use Rattle.plain_engine.proofs.value.+value.Goals.{After-followed-most, In-loop-i, After-product-sum, After-loop-i}

-- the sizes that are followed have a weight, and do not ruin
inside : (t : ℕ) (c : After-followed-most t) → Inside c.args.severity.now c.args.level c.followed-most.result
inside t c = let a = c.args in followed_inside ((rule_of a.question).after_claim a.left) c.min.result a.severity.now a.level c.followed-most.result c.min.ensures c.followed-most.ensures

-- a turn is one of them
turn : (t : ℕ) (c : In-loop-i t) → c.loop-i.i < c.followed-most.result
turn t c =
    let a = c.args in
    let inside = followed_inside ((rule_of a.question).after_claim a.left) c.min.result a.severity.now a.level c.followed-most.result c.min.ensures c.followed-most.ensures in
    omega (arith, c.loop-i-test.true, inside.all)

-- the product that a turn adds
added :
    (t : ℕ) (c : After-product-sum t) → c.loop-i.i < c.followed-most.result →
    let a = c.args in
    let f = claim_term a.severity.now (rows_after a.round a.question a.severity.now (take (length a.chances.now - 1) (drop 1 a.chances.now)) c.claims_after-fewer.result) a.level in
    (c.loop-i.sum + c.product-sum.result ≤ S * S) × (c.loop-i.sum + c.product-sum.result ≡ sum (c.loop-i.i + 1) f)
added t c l =
    let a = c.args in
    let later = take (length a.chances.now - 1) (drop 1 a.chances.now) in
    let fewer = c.claims_after-fewer.result in
    let most = c.followed-most.result in
    let i = c.loop-i.i in
    let down = c.level_value in
    let row = rows_after a.round a.question a.severity.now later fewer in
    let read = level_is a.round a.question a.severity.now later fewer (a.level - i) _ down.result down.ensures c.value-after.ensures in
    let more =
    summing_turn (claim_term a.severity.now row a.level) most c.loop-i.sum i c.product-sum.result l
    (term_is a.severity.now row a.level most i down.result c.product-sum.result l c.product-sum.ensures read) c.loop-i.invariant in
    let whole =
    followed_sum a.severity.now (rows_after a.round a.question a.severity.now later) ((rule_of a.question).after_claim a.left) a.level
    most c.min.result fewer c.min.ensures c.followed-most.ensures c.claims_after-fewer.ensures in
    (omega (arith, more.0, whole, sum_fits a.round a.question a.severity.now a.chances.now a.level c.requires a.left), more.1)

-- after the loop: the quiet value, and the whole sum
quiet_is :
    (t : ℕ) (c : After-followed-most t) →
    let a = c.args in
    c.level_value-quiet.result ≡ rows_after a.round a.question a.severity.now (take (length a.chances.now - 1) (drop 1 a.chances.now)) a.left (a.level + small_income)
quiet_is t c =
    let a = c.args in
    level_is a.round a.question a.severity.now (take (length a.chances.now - 1) (drop 1 a.chances.now)) a.left (a.level + small_income)
    c.value.result c.level_value-quiet.result c.level_value-quiet.ensures c.value.ensures

sum_is :
    (t : ℕ) (c : After-loop-i t) →
    let a = c.args in
    c.loop-i.sum
    ≡ claim_sum a.severity.now (claimed_row (rows_after a.round a.question a.severity.now (take (length a.chances.now - 1) (drop 1 a.chances.now))) ((rule_of a.question).after_claim a.left)) (a.level + small_income)
sum_is t c =
    let a = c.args in
    let inside = followed_inside ((rule_of a.question).after_claim a.left) c.min.result a.severity.now a.level c.followed-most.result c.min.ensures c.followed-most.ensures in
    let all : c.loop-i.i ≡ c.followed-most.result = omega (arith, c.loop-i-test.false, c.loop-i.auto.i-end, inside.all) in
    c.loop-i.invariant
    ∙ ap (λ (n : ℕ). sum n (claim_term a.severity.now (rows_after a.round a.question a.severity.now (take (length a.chances.now - 1) (drop 1 a.chances.now)) c.claims_after-fewer.result) a.level)) all
    ∙ followed_sum a.severity.now (rows_after a.round a.question a.severity.now (take (length a.chances.now - 1) (drop 1 a.chances.now))) ((rule_of a.question).after_claim a.left) a.level
    c.followed-most.result c.min.result c.claims_after-fewer.result c.min.ensures c.followed-most.ensures c.claims_after-fewer.ensures

pub returns-then-chances-lt1 : goal.returns-then-chances-lt1
unfolding values
returns-then-chances-lt1 t c = rw (no_chances c.args.chances.now (omega arith)) (c.last_value.ensures c.args.level)

-- with one month fewer to go
pub value-requires : goal.value-requires
value-requires t c =
    let a = c.args in (
      omega (arith, c.decreases, fewer_months a.chances.now),
      later_terms a.round a.question a.severity.now a.chances.now a.level c.requires c.if-chances-lt1.false _ (omega arith),
    )

pub slice_bounds-weight-items-end : goal.slice_bounds-weight-items-end
slice_bounds-weight-items-end t c = sym (inside t (goal.at.slice_bounds-weight-items-end t c).After-followed-most).all

pub loop-i-init : goal.loop-i-init
unfolding sum
loop-i-init t c = refl

pub overflow_sub-down : goal.overflow_sub-down
overflow_sub-down t c = omega (arith, turn t (goal.at.overflow_sub-down t c).In-loop-i, (inside t (goal.at.overflow_sub-down t c).After-followed-most).level)

pub value-after-requires : goal.value-after-requires
value-after-requires t c =
    let a = c.args in (
      omega (arith, c.decreases, fewer_months a.chances.now),
      later_terms a.round a.question a.severity.now a.chances.now a.level c.requires c.if-chances-lt1.false _ (omega arith),
    )

pub overflow_add-sum : goal.overflow_add-sum
unfolding S
overflow_add-sum t c = omega (arith, (added t (goal.at.overflow_add-sum t c).After-product-sum (turn t (goal.at.overflow_add-sum t c).In-loop-i)).0)

pub loop-i-preserved : goal.loop-i-preserved
loop-i-preserved t c = (added t (goal.at.loop-i-preserved t c).After-product-sum (turn t (goal.at.loop-i-preserved t c).In-loop-i)).1

pub month_value-requires : goal.month_value-requires
unfolding S
month_value-requires t c =
    let a = c.args in
    let n = c.loop-i.sum in
    let left : n % S < S = omega arith in
    let whole_fits : n ≤ S * S = rw (sum_is t (goal.at.month_value-requires t c).After-loop-i) (sum_fits a.round a.question a.severity.now a.chances.now a.level c.requires a.left) in
    let joined : n / S * S + n % S ≤ S * S = rw (div-add-mod' n S) whole_fits in (
      c.requires.chances_fit 0,
      rw (quiet_is t (goal.at.month_value-requires t c).After-followed-most) (row_fits a.round a.question a.severity.now a.chances.now a.level c.requires a.left (a.level + small_income)),
      joined,
      left,
    )

pub returns : goal.returns
unfolding S
returns t c =
    let a = c.args in
    value_is a.round a.question a.severity.now a.chances.now a.left a.level _ _ c.month_value.result c.if-chances-lt1.false
    (quiet_is t (goal.at.returns t c).After-followed-most) (sum_is t (goal.at.returns t c).After-loop-i) c.month_value.ensures
