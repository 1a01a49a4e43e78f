-- `put_place` meets its contract: the level, the claims left, and the line of the value.
use mathlib.Core.Path.{◌∙◌}
use mathlib.Core.Bool.{true, false}
use Prim.Native.Nat.{ℕ, ◌+◌, ◌≤◌}
use mathlib.Core.List.{List, [], ◌∷◌, ◌++◌}
use lib.ListN.{length}
use Rattle.text.specs.Text.{entry, Appended}
use Rattle.text.proofs.TextLaws.{appended_more, room_first, room_rest}
use Rattle.tree_values.specs.Lines.{left_text, place_text}
use Rattle.tree_values.proofs.ValueLines.{value_line, value_room, value_put}
use Rattle.tree_values.proofs.put_place.Goals as goal
use Rattle.tree_values.proofs.put_place.Goals.{Start, After-put_left-end}

-- room for the two, and for the line of the value after them
first_room : (c : Start) → let a = c.args in a.at + length (entry a.word.now (a.node.level ∷ []) ++ left_text a.question a.node.left) ≤ length a.text.now
unfolding place_text
first_room c = let a = c.args in room_first a.at (entry a.word.now (a.node.level ∷ []) ++ left_text a.question a.node.left) (value_line a.allowed a.bounds) c.requires

first_written : (c : After-put_left-end) → let a = c.args in Appended a.text.now a.at (entry a.word.now (a.node.level ∷ []) ++ left_text a.question a.node.left) c.put_left-end.new.text c.put_left-end.result
first_written c = appended_more c.put_entry-end.ensures c.put_left-end.ensures

after_left : (c : After-put_left-end) → let a = c.args in c.put_left-end.result + length (value_line a.allowed a.bounds) ≤ length c.put_left-end.new.text
unfolding place_text
after_left c = room_rest (value_line c.args.allowed c.args.bounds) (first_written c) (c.put_left-end.auto.text ∙ c.put_entry-end.auto.buffer) c.requires

written :
    (c : After-put_left-end) (b : List ℕ) (end : ℕ) → let a = c.args in
    Appended c.put_left-end.new.text c.put_left-end.result (value_line a.allowed a.bounds) b end →
    Appended a.text.now a.at (place_text a.word.now a.question a.node.left a.node.level a.allowed a.bounds) b end
unfolding place_text
written c b end put = appended_more (first_written c) put

pub put_entry-end-requires : goal.put_entry-end-requires
put_entry-end-requires c =
    let a = c.args in
    room_first a.at (entry a.word.now (a.node.level ∷ [])) (left_text a.question a.node.left) (first_room (goal.at.put_entry-end-requires c).Start)

pub put_left-end-requires : goal.put_left-end-requires
put_left-end-requires c =
    let a = c.args in
    room_rest (left_text a.question a.node.left) c.put_entry-end.ensures c.put_entry-end.auto.buffer (first_room (goal.at.put_left-end-requires c).Start)

pub put_line-requires : goal.put_line-requires
put_line-requires c =
    let a = c.args in
    rw (c.from.ensures, c.from-2.ensures) (value_room a.allowed true a.bounds _ _ c.if-allowed.true (after_left (goal.at.put_line-requires c).After-put_left-end))

pub returns-then-allowed : goal.returns-then-allowed
returns-then-allowed c =
    let a = c.args in
    written (goal.at.returns-then-allowed c).After-put_left-end _ _ (value_put a.allowed true a.bounds c.if-allowed.true (rw (← c.from.ensures, ← c.from-2.ensures) c.put_line.ensures))

pub put_line-requires-2 : goal.put_line-requires-2
put_line-requires-2 c =
    let a = c.args in
    rw (c.from.ensures, c.from-2.ensures) (value_room a.allowed false a.bounds _ _ c.if-allowed.false (after_left (goal.at.put_line-requires-2 c).After-put_left-end))

pub returns : goal.returns
returns c =
    let a = c.args in
    written (goal.at.returns c).After-put_left-end _ _ (value_put a.allowed false a.bounds c.if-allowed.false (rw (← c.from.ensures, ← c.from-2.ensures) c.put_line-2.ensures))
