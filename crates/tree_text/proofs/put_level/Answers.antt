use Prim.Native.Nat.{◌+◌, ◌-◌}
use mathlib.Core.Path.{◌≡◌, ap}
use native.Mathlib.Omega.{arith}
use lib.ListN.{length}
use Rattle.text.specs.Text.{joined}
use Rattle.text.proofs.TextLaws.{Appending, appended_as, appending_done}
use Rattle.tree_text.specs.Tree.{small_plan, node_if, level_text}
use Rattle.tree_text.proofs.TreeLaws.{falling, falling_start, falling_room, falling_turn, falling_on, level_nodes}
use Rattle.tree_text.proofs.put_level.Goals as goal
use Rattle.tree_text.proofs.put_level.Goals.{After-saturating_sub-least, After-put_reached-end}

-- the nodes that the loop goes through are all nodes of the level
all_nodes :
    (c : After-saturating_sub-least) → let a = c.args in
    level_text a.question (small_plan a.opening a.chances.now a.severity.now a.tail) a.month a.level
    ≡ joined (c.claims_to_place-most.result - c.saturating_sub-least.result + 1) (falling (node_if a.question (small_plan a.opening a.chances.now a.severity.now a.tail) a.month a.level) c.claims_to_place-most.result)
all_nodes c =
    let a = c.args in
    level_nodes a.question (small_plan a.opening a.chances.now a.severity.now a.tail) a.month a.level c.claims_to_place-most.result c.saturating_sub-least.result c.claims_to_place-most.ensures c.saturating_sub-least.ensures

-- after a turn its node is appended too
turned :
    (c : After-put_reached-end) → let a = c.args in
    Appending (falling (node_if a.question (small_plan a.opening a.chances.now a.severity.now a.tail) a.month a.level) c.claims_to_place-most.result)
    (c.claims_to_place-most.result - c.saturating_sub-least.result + 1) a.text.now a.at c.put_reached-end.new.text c.put_reached-end.result (c.claims_to_place-most.result - c.loop-left.left + 1)
turned c = falling_turn c.loop-left.invariant.text (omega arith) (omega (arith, c.loop-left.invariant.within)) c.put_reached-end.auto.text c.put_reached-end.ensures

pub loop-left-init : goal.loop-left-init
loop-left-init c = record { within = omega (arith, c.saturating_sub-least.ensures); text = falling_start _ (omega (arith, c.requires.level_in_bounds)) }

pub put_reached-end-requires-clause-left_in_bounds : goal.put_reached-end-requires-clause-left_in_bounds
put_reached-end-requires-clause-left_in_bounds c =
    falling_room c.loop-left.invariant.text (omega arith) (omega (arith, c.loop-left.invariant.within))
    (omega (arith, c.requires.level_in_bounds, ap length (all_nodes (goal.at.put_reached-end-requires-clause-left_in_bounds c).After-saturating_sub-least)))

pub loop-left-preserved : goal.loop-left-preserved
loop-left-preserved c =
    record {
      within = omega arith;
      text = falling_on (omega arith) (omega arith) (turned (goal.at.loop-left-preserved c).After-put_reached-end);
    }

pub returns : goal.returns
returns c = absurd (omega (arith, c.loop-left.invariant.within))

pub returns-2 : goal.returns-2
returns-2 c =
    let at = goal.at.returns-2 c in
    appended_as (all_nodes at.After-saturating_sub-least) (appending_done (turned at.After-put_reached-end) (omega arith))
