-- `month_value` meets its contract: two quotients by S are the one by S × S (`split_is`), and nothing passes S × S.
use mathlib.Core.Path.{◌≡◌, sym, ◌∙◌, ap, ap₂}
use Prim.Native.Nat.{ℕ, ◌+◌, ◌*◌, ◌-◌, ◌≤◌}
use native.Mathlib.Nat.{mul-le-mul}
use native.Mathlib.Omega.{arith}
use Rattle.model.specs.Scale.{S, quotient}
use Rattle.model.specs.SplitMonth.{split_parts, split_month}
use Rattle.model.proofs.Month.{split_is, parts_fit}
use Rattle.rounding.proofs.month_value.Goals as goal
use Rattle.rounding.proofs.month_value.Goals.{After-weighted_sum}

pub overflow_mul-p : goal.overflow_mul-p
unfolding S
overflow_mul-p c =
    let a = c.args in
    let same : c.from-p.result * a.left ≡ a.chance * a.left = ap (λ (p : ℕ). p * a.left) c.from-p.ensures in
    let left : a.left ≤ S = omega (arith, c.requires.3) in
    let fits : a.chance * a.left ≤ S * S = mul-le-mul c.requires.0 left in
    omega (arith, same, fits)

-- both together are the parts of S that the month divides
parts : (c : After-weighted_sum) → let a = c.args in c.weighted_sum.result + c.from-carried.result ≡ split_parts a.round a.chance a.quiet a.claimed a.left
unfolding split_parts
parts c =
    let a = c.args in
    ap₂ (λ (m n : ℕ). m + n)
    (c.weighted_sum.ensures ∙ ap (λ (q : ℕ). (S - a.chance) * q + a.chance * a.claimed) c.from.ensures)
    (c.from-carried.ensures ∙ c.divide.ensures ∙ ap (λ (p : ℕ). quotient a.round (p * a.left) S) c.from-p.ensures)

fits : (c : After-weighted_sum) → c.weighted_sum.result + c.from-carried.result ≤ S * S
fits c =
    let a = c.args in
    rw (parts c) (parts_fit a.round a.chance a.quiet a.claimed a.left c.requires.0 c.requires.1 c.requires.2)

pub overflow_add-weighted_sum : goal.overflow_add-weighted_sum
unfolding S
overflow_add-weighted_sum c = omega (arith, fits (goal.at.overflow_add-weighted_sum c).After-weighted_sum)

pub divide-requires-2 : goal.divide-requires-2
divide-requires-2 c = fits (goal.at.divide-requires-2 c).After-weighted_sum

pub returns : goal.returns
unfolding split_month
returns c =
    let a = c.args in
    c.divide-2.ensures
    ∙ ap (λ (n : ℕ). quotient a.round n S) (parts (goal.at.returns c).After-weighted_sum)
    ∙ sym (split_is a.round a.chance a.quiet a.claimed a.left)
