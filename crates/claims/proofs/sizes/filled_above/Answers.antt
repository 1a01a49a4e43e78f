use mathlib.Core.Path.{◌≡◌}
use Prim.Native.Nat.{◌<◌}
use native.Mathlib.Omega.{arith}
use Rattle.claims.proofs.ListingLaws.{listed_filled, listed_empty}
use Rattle.claims.proofs.sizes.filled_above.Goals as goal

pub loop-x-preserved-then-severity-x-ne0 : goal.loop-x-preserved-then-severity-x-ne0
loop-x-preserved-then-severity-x-ne0 c =
    let loop = c.loop-x in
    let some : 0 < loop.x = omega arith in
    record {
      above = omega arith;
      listed = listed_filled c.args.severity.now loop.sizes loop.count loop.x c.requires.0 some c.if-severity-x-ne0.true loop.invariant.listed;
    }

pub loop-x-preserved : goal.loop-x-preserved
loop-x-preserved c =
    let loop = c.loop-x in
    let some : 0 < loop.x = omega arith in
    record {
      above = omega arith;
      listed = listed_empty c.args.severity.now loop.sizes loop.count loop.x some c.if-severity-x-ne0.false loop.invariant.listed;
    }

pub returns-clause-listed : goal.returns-clause-listed
returns-clause-listed c =
    let here : c.loop-x.x ≡ c.args.dense = omega arith in rw here at c.loop-x.invariant.listed.whole
