use mathlib.Core.List.{map}
use Prim.Native.Nat.{◌+◌, ◌*◌, ◌-◌}
use native.Mathlib.Omega.{arith}
use mathlib.Core.Path.{◌≡◌}
use lib.ListN.{get_or, drop}
use Rattle.model.specs.Scale.{S}
use Rattle.model.specs.Sums.{total}
use Rattle.claims.specs.Listing.{sum_term}
use Rattle.claims.proofs.SummingLaws.{listed_next, listed_none}
use Rattle.claims.proofs.sum.listed_sum.Goals as goal
use Rattle.claims.proofs.sum.listed_sum.Goals.{In-loop-x}

-- the product that a turn adds
next : (c : In-loop-x) → let a = c.args in let place = get_or a.sizes.now c.loop-x.x-index 0 - 1 in total (map (sum_term a.severity.now a.after.now) (drop c.loop-x.x-index a.sizes.now)) ≡ get_or a.severity.now place 0 * get_or a.after.now place 0 + total (map (sum_term a.severity.now a.after.now) (drop (c.loop-x.x-index + 1) a.sizes.now))
next c =
    let a = c.args in
    let listed = c.requires.sizes_in.each c.loop-x.x-index c.loop-x-test.true in
    listed_next a.severity.now a.after.now a.sizes.now c.loop-x.x-index c.loop-x-test.true listed.0

pub plus-added-requires-clause-fits : goal.plus-added-requires-clause-fits
unfolding S
plus-added-requires-clause-fits c = omega (arith, next (goal.at.plus-added-requires-clause-fits c).In-loop-x)

pub loop-x-preserved : goal.loop-x-preserved
loop-x-preserved c = record { passed = omega arith; whole = omega (arith, next (goal.at.loop-x-preserved c).In-loop-x) }

pub returns-clause-sum : goal.returns-clause-sum
returns-clause-sum c =
    let a = c.args in
    omega (arith, listed_none (sum_term a.severity.now a.after.now) a.sizes.now c.loop-x.x-index c.loop-x-test.false)
