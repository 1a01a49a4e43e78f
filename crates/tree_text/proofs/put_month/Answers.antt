use Prim.Native.Nat.{◌+◌, ◌-◌, ◌≤◌}
use native.Mathlib.Omega.{arith}
use lib.ListN.{length}
use Rattle.text.specs.Text.{joined}
use Rattle.text.proofs.TextLaws.{Appending, appending_done}
use Rattle.tree_text.specs.Tree.{small_plan, level_text, level_down, month_text}
use Rattle.tree_text.proofs.TreeLaws.{falling, falling_start, falling_room, falling_turn, falling_on}
use Rattle.tree_text.proofs.put_month.Goals as goal
use Rattle.tree_text.proofs.put_month.Goals.{Start, After-put_level-end}

room :
    (c : Start) → let a = c.args in
    0 + length (joined (a.opening + a.month + 1) (level_down a.question (small_plan a.opening a.chances.now a.severity.now a.tail) a.month)) ≤ length a.text.now
unfolding month_text
room c = omega (arith, c.requires.month_in_bounds)

-- after a turn the level's nodes are appended too
turned :
    (c : After-put_level-end) → let a = c.args in
    Appending (falling (level_text a.question (small_plan a.opening a.chances.now a.severity.now a.tail) a.month) (a.opening + a.month)) (a.opening + a.month + 1) a.text.now 0
    c.put_level-end.new.text c.put_level-end.result (a.opening + a.month - c.loop-level.level + 1)
turned c = falling_turn c.loop-level.invariant (omega arith) (omega arith) c.put_level-end.auto.text c.put_level-end.ensures

pub loop-level-init : goal.loop-level-init
loop-level-init c = falling_start _ (omega arith)

pub put_level-end-requires-clause-level_in_bounds : goal.put_level-end-requires-clause-level_in_bounds
put_level-end-requires-clause-level_in_bounds c =
    falling_room c.loop-level.invariant (omega arith) (omega arith) (room (goal.at.put_level-end-requires-clause-level_in_bounds c).Start)

pub loop-level-preserved : goal.loop-level-preserved
loop-level-preserved c = falling_on (omega arith) (omega arith) (turned (goal.at.loop-level-preserved c).After-put_level-end)

pub returns-2 : goal.returns-2
unfolding month_text
returns-2 c = appending_done (turned (goal.at.returns-2 c).After-put_level-end) (omega arith)
