use Prim.Native.Nat.{◌<◌}
use native.Mathlib.Omega.{arith}
use borrow.Author.Count.{below_more}
use Rattle.claims.specs.Values.{from_top}
use Rattle.target_rows.proofs.LeastLaws.{level_found, last_reaches}
use Rattle.target_rows.proofs.rows.least_level.Goals as goal

pub value_at-requires : goal.value_at-requires
value_at-requires c = (omega arith, c.requires.top_in_bounds)

pub returns-then-target-value_at : goal.returns-then-target-value_at
returns-then-target-value_at c =
    let loop = c.loop-level in
    let a = c.args in record { found = level_found a.target a.top (from_top a.top a.row.now) loop.level (omega arith) (omega (arith, c.value_at.ensures, c.if-target-value_at.true)) loop.invariant; inside = omega arith }

pub loop-level-preserved : goal.loop-level-preserved
loop-level-preserved c =
    let loop = c.loop-level in
    let a = c.args in
    below_more (λ i. from_top a.top a.row.now i < a.target) loop.level loop.invariant (omega (arith, c.value_at.ensures, c.if-target-value_at.false))

pub returns : goal.returns
returns c =
    let loop = c.loop-level in
    let a = c.args in
    let row = from_top a.top a.row.now in
    let enough = last_reaches a.target a.top row c.requires.reaches (λ i l. loop.invariant i (omega arith)) in
    record { found = level_found a.target a.top row a.top (omega arith) enough (λ i l. loop.invariant i (omega arith)); inside = omega arith }
