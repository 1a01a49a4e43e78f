use mathlib.Core.Path.{◌≡◌}
use Prim.Native.Nat.{◌+◌, ◌*◌, ◌-◌}
use native.Mathlib.Omega.{arith}
use lib.ListN.{get_or}
use Rattle.model.specs.Scale.{S}
use Rattle.model.specs.Sums.{sum}
use Rattle.claims.specs.Listing.{sum_term}
use Rattle.claims.proofs.SummingLaws.{dense_next, dense_none}
use Rattle.claims.proofs.sum.dense_sum.Goals as goal
use Rattle.claims.proofs.sum.dense_sum.Goals.{In-loop-x}

-- the product that a turn adds
next : (c : In-loop-x) → let a = c.args in let x = c.loop-x.x in sum x (sum_term a.severity.now a.after.now) ≡ get_or a.severity.now (x - 1) 0 * get_or a.after.now (x - 1) 0 + sum (x - 1) (sum_term a.severity.now a.after.now)
next c = dense_next c.args.severity.now c.args.after.now c.loop-x.x c.loop-x-test.true

pub plus-added-requires-clause-fits : goal.plus-added-requires-clause-fits
unfolding S
plus-added-requires-clause-fits c = omega (arith, next (goal.at.plus-added-requires-clause-fits c).In-loop-x)

pub loop-x-preserved : goal.loop-x-preserved
loop-x-preserved c = record { passed = omega arith; whole = omega (arith, next (goal.at.loop-x-preserved c).In-loop-x) }

pub returns-clause-sum : goal.returns-clause-sum
returns-clause-sum c =
    omega (arith, dense_none (sum_term c.args.severity.now c.args.after.now) c.loop-x.x c.loop-x-test.false)
