-- `claim_sum` meets its contract: the listed sizes and those without a gap are all filled sizes in range.
use mathlib.Core.Path.{◌≡◌, ◌∙◌, ap}
use Prim.Native.Nat.{ℕ, ◌+◌, ◌*◌, ◌/◌, ◌%◌, ◌≤◌, min}
use native.Mathlib.Omega.{arith}
use lib.ListN.{length}
use Rattle.model.specs.Scale.{S}
use Rattle.model.specs.Sums.{sum}
use Rattle.claims.specs.Listing.{sum_term}
use Rattle.claims.proofs.SummingLaws.{Parted, parted, sizes_in, whole_sum, whole_fits}
use Rattle.claims.proofs.sum.claim_sum.Goals as goal
use Rattle.claims.proofs.sum.claim_sum.Goals.{After-dense_sum-rest, After-min-low}

-- the two parts of the filled sizes in range
parts : (c : After-min-low) → let a = c.args in Parted a.severity.now a.after.now a.sizes.now c.min-low.result
parts c =
    let a = c.args in
    parted a.severity.now a.after.now a.sizes.now a.dense c.min-low.result c.requires.lists_range c.requires.no_gap
    (omega arith)

-- the whole, which bounds them
fits : (c : After-min-low) → let a = c.args in sum (min (length a.after.now) (length a.severity.now)) (sum_term a.severity.now a.after.now) ≤ S * S
fits c = whole_fits c.args.severity.now c.args.after.now c.requires.severity_bound c.requires.parts

pub listed_sum-listed-requires-clause-sizes_in : goal.listed_sum-listed-requires-clause-sizes_in
listed_sum-listed-requires-clause-sizes_in c = sizes_in c.args.severity.now c.args.sizes.now c.args.dense _ c.requires.lists_range

pub listed_sum-listed-requires-clause-sizes_bound : goal.listed_sum-listed-requires-clause-sizes_bound
listed_sum-listed-requires-clause-sizes_bound c =
    let here = (goal.at.listed_sum-listed-requires-clause-sizes_bound c).After-min-low in omega (arith, (parts here).sums, fits here)

pub dense_sum-rest-requires-clause-after_bound : goal.dense_sum-rest-requires-clause-after_bound
dense_sum-rest-requires-clause-after_bound c =
    let here = (goal.at.dense_sum-rest-requires-clause-after_bound c).After-min-low in omega (arith, (parts here).sums, fits here)

-- both parts together
together : (c : After-dense_sum-rest) → let a = c.args in Parted a.severity.now a.after.now a.sizes.now c.min-low.result → c.listed_sum-listed.result.sum + c.dense_sum-rest.result.sum ≡ sum (min (length a.after.now) (length a.severity.now)) (sum_term a.severity.now a.after.now)
together c parts = omega (arith, parts.sums)

pub overflow_add-sum : goal.overflow_add-sum
unfolding S
overflow_add-sum c =
    let here = (goal.at.overflow_add-sum c).After-min-low in
    omega (arith, together (goal.at.overflow_add-sum c).After-dense_sum-rest (parts here), fits here)

pub returns : goal.returns
unfolding S
returns c =
    let a = c.args in
    let here = parts (goal.at.returns c).After-min-low in
    let whole = together (goal.at.returns c).After-dense_sum-rest here ∙ whole_sum a.severity.now a.after.now in
    record { quotient = ap (λ (n : ℕ). n / S) whole; remainder = ap (λ (n : ℕ). n % S) whole; products = omega (arith, here.count) }
