-- `put_node` meets its contract: the node, and below it nothing, or what its value follows from.
use Prim.Native.Nat.{ℕ, ◌+◌, ◌≤◌, ◌<◌}
use mathlib.Core.Path.{◌≡◌, sym, ◌∙◌, ap}
use mathlib.Core.Bool.{cond}
use mathlib.Core.List.{List, [], ◌∷◌, ◌++◌}
use native.Mathlib.Omega.{arith}
use lib.ListN.{length}
use Rattle.std.proofs.Common.{rules}
use Rattle.model.specs.declared.Question.{Question}
use Rattle.text.specs.Text.{ascii, entry, Appended}
use Rattle.text.proofs.TextLaws.{appended_more, room_first, room_rest, appended_nothing, appended_as}
use Rattle.tree_nodes.specs.Nodes.{node_allowed}
use Rattle.tree_values.specs.Lines.{value_text, branch_texts, node_text}
use Rattle.tree_lines.proofs.LineLaws.{below_last, below_forbidden, below_allowed}
use Rattle.tree_lines.proofs.put_node.Goals as goal
use Rattle.tree_lines.proofs.put_node.Goals.{Start, After-put_value-end, Else-not-node_allowed}

-- the node's own line, and the lines below it
abbrev first_text : Question → List ℕ → ℕ → List ℕ → ℕ → ℕ → List ℕ
first_text q F t Ps k s = entry (ascii "month") (t ∷ []) ++ value_text (ascii " level") q F t Ps k s

abbrev below : Question → List ℕ → ℕ → ℕ → List ℕ → ℕ → ℕ → List ℕ
below q F tail t Ps k s = cond (node_allowed q t s) (branch_texts q F tail t Ps k s) []

first_room : (c : Start) → let a = c.args in a.at + length (first_text a.question a.severity.now a.month a.chances.now a.node.left a.node.level) ≤ length a.text.now
unfolding node_text
first_room c =
    let a = c.args in
    room_first a.at (first_text a.question a.severity.now a.month a.chances.now a.node.left a.node.level) (below a.question a.severity.now a.tail a.month a.chances.now a.node.left a.node.level)
    c.requires.level_in_bounds

below_room :
    (c : After-put_value-end) → let a = c.args in
    c.put_value-end.result + length (below a.question a.severity.now a.tail a.month a.chances.now a.node.left a.node.level) ≤ length c.put_value-end.new.text
unfolding node_text
below_room c =
    let a = c.args in
    room_rest (below a.question a.severity.now a.tail a.month a.chances.now a.node.left a.node.level) (appended_more c.put_entry-end.ensures c.put_value-end.ensures)
    (c.put_value-end.auto.text ∙ c.put_entry-end.auto.buffer) c.requires.level_in_bounds

written :
    (c : After-put_value-end) (b : List ℕ) (end : ℕ) → let a = c.args in
    Appended c.put_value-end.new.text c.put_value-end.result (below a.question a.severity.now a.tail a.month a.chances.now a.node.left a.node.level) b end →
    Appended a.text.now a.at (node_text a.question a.severity.now a.tail a.month a.chances.now a.node.left a.node.level) b end
unfolding node_text
written c b end put = appended_more (appended_more c.put_entry-end.ensures c.put_value-end.ensures) put

-- where there is nothing below
bare :
    (c : After-put_value-end) → let a = c.args in
    below a.question a.severity.now a.tail a.month a.chances.now a.node.left a.node.level ≡ [] →
    Appended a.text.now a.at (node_text a.question a.severity.now a.tail a.month a.chances.now a.node.left a.node.level) c.put_value-end.new.text c.put_value-end.result
bare c e = written c _ _ (appended_nothing _ _ _ e (below_room c))

followed :
    (c : Else-not-node_allowed) → let a = c.args in
    below a.question a.severity.now a.tail a.month a.chances.now a.node.left a.node.level ≡ branch_texts a.question a.severity.now a.tail a.month a.chances.now a.node.left a.node.level
followed c =
    let a = c.args in
    below_allowed a.question a.severity.now a.tail a.month a.chances.now a.node.left a.node.level (node_allowed a.question a.month a.node.level) (sym c.node_allowed.ensures ∙ c.if-not-node_allowed.false)

pub put_entry-end-requires : goal.put_entry-end-requires
put_entry-end-requires c =
    let a = c.args in
    room_first a.at (entry (ascii "month") (a.month ∷ [])) (value_text (ascii " level") a.question a.severity.now a.month a.chances.now a.node.left a.node.level)
    (first_room (goal.at.put_entry-end-requires c).Start)

pub put_value-end-requires : goal.put_value-end-requires
put_value-end-requires c =
    let a = c.args in
    record {
      terms = c.requires.terms;
      level_in_bounds =
          room_rest (value_text (ascii " level") a.question a.severity.now a.month a.chances.now a.node.left a.node.level) c.put_entry-end.ensures c.put_entry-end.auto.buffer
          (first_room (goal.at.put_value-end-requires c).Start);
    }

pub returns-then-is_empty : goal.returns-then-is_empty
returns-then-is_empty c =
    let a = c.args in
    let ended : length a.chances.now < 1 = search rules in
    bare (goal.at.returns-then-is_empty c).After-put_value-end
    (below_last a.question a.severity.now a.tail a.month a.chances.now a.node.left a.node.level (node_allowed a.question a.month a.node.level) ended)

pub returns-then-not-node_allowed : goal.returns-then-not-node_allowed
returns-then-not-node_allowed c =
    let a = c.args in
    bare (goal.at.returns-then-not-node_allowed c).After-put_value-end
    (below_forbidden a.question a.severity.now a.tail a.month a.chances.now a.node.left a.node.level (node_allowed a.question a.month a.node.level) (sym c.node_allowed.ensures ∙ c.if-not-node_allowed.true))

pub put_branches-requires : goal.put_branches-requires
put_branches-requires c =
    let months : 0 < length c.args.chances.now = search rules in
    record {
      terms = c.requires.terms;
      chances_nonzero = (months, c.requires.month_bound.0, c.requires.month_bound.1);
      level_in_bounds = omega (arith, below_room (goal.at.put_branches-requires c).After-put_value-end, ap length (followed (goal.at.put_branches-requires c).Else-not-node_allowed));
    }

pub returns : goal.returns
returns c = written (goal.at.returns c).After-put_value-end _ _ (appended_as (followed (goal.at.returns c).Else-not-node_allowed) c.put_branches.ensures)
