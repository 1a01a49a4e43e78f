use native.Mathlib.Omega.{arith}
use Rattle.text.proofs.TextLaws.{appending_start, appending_room, appending_turn}
use Rattle.tree_lines.proofs.put_claims.Goals as goal

pub loop-i-init : goal.loop-i-init
loop-i-init c = appending_start (omega (arith, c.requires.level_in_bounds))

pub put_claim-end-requires-clause-place_in_bounds : goal.put_claim-end-requires-clause-place_in_bounds
put_claim-end-requires-clause-place_in_bounds c =
    appending_room c.loop-i.invariant (omega (arith, c.min-i-end.ensures, c.loop-i-test.true)) c.requires.level_in_bounds

pub loop-i-preserved : goal.loop-i-preserved
loop-i-preserved c =
    appending_turn c.loop-i.invariant (omega (arith, c.min-i-end.ensures, c.loop-i-test.true)) c.put_claim-end.auto.text c.put_claim-end.ensures
