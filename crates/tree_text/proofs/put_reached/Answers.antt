-- `put_reached` meets its contract: the node where it is reached from the opening, and otherwise nothing.
use Prim.Native.Nat.{ℕ, ◌-◌}
use mathlib.Core.Path.{◌≡◌, sym, ◌∙◌, ap}
use mathlib.Core.List.{List}
use native.Mathlib.Omega.{arith}
use lib.ListN.{length, take, drop, length-take}
use lib.Seq.{length-take-le}
use Rattle.text.proofs.TextLaws.{appended_nothing, appended_as}
use Rattle.tree_nodes.specs.Nodes.{leads, reached}
use Rattle.tree_values.specs.Lines.{node_text}
use Rattle.tree_text.specs.Tree.{small_plan, node_if}
use Rattle.tree_text.proofs.TreeLaws.{node_on, node_off, later_lent, node_terms}
use Rattle.tree_text.proofs.put_reached.Goals as goal
use Rattle.tree_text.proofs.put_reached.Goals.{After-leads, Then-leads}

-- what was found is whether the node is reached
found : (c : After-leads) → let a = c.args in c.leads.result ≡ reached a.question (small_plan a.opening a.chances.now a.severity.now a.tail) a.month a.node.left a.node.level
unfolding reached
found c =
    let a = c.args in
    c.leads.ensures ∙ ap (λ (k : ℕ). leads a.question a.severity.now 0 (take a.month a.chances.now) a.node.left a.node.level k a.opening) c.claims_to_place.ensures

-- the node that is reached
node :
    (c : Then-leads) → let a = c.args in
    c.leads.result ≡ reached a.question (small_plan a.opening a.chances.now a.severity.now a.tail) a.month a.node.left a.node.level →
    node_if a.question (small_plan a.opening a.chances.now a.severity.now a.tail) a.month a.node.level a.node.left
    ≡ node_text a.question a.severity.now a.tail a.month (take (length a.chances.now - a.month) (drop a.month a.chances.now)) a.node.left a.node.level
node c is =
    let a = c.args in
    node_on a.question (small_plan a.opening a.chances.now a.severity.now a.tail) a.month a.node.level a.node.left (sym is ∙ c.if-leads.true)
    ∙ ap (λ (Ps : List ℕ). node_text a.question a.severity.now a.tail a.month Ps a.node.left a.node.level) (sym (later_lent a.month a.chances.now))

pub slice_bounds-leads-end : goal.slice_bounds-leads-end
slice_bounds-leads-end c = sym (length-take-le c.args.month c.args.chances.now c.requires.small_terms.ended)

pub leads-requires : goal.leads-requires
leads-requires c =
    let part = length-take c.args.month c.args.chances.now in
    (omega (arith, part, c.requires.small_terms.months_few), omega (arith, part, c.requires.small_terms.months_few, c.requires.small_terms.opening_low))

pub offset_bounds-chances-month : goal.offset_bounds-chances-month
offset_bounds-chances-month c = omega (arith, c.requires.small_terms.ended, c.requires.small_terms.months_few)

pub slice_bounds-put_node-count : goal.slice_bounds-put_node-count
slice_bounds-put_node-count c = omega (arith, c.requires.small_terms.ended)

pub slice_bounds-put_node-start : goal.slice_bounds-put_node-start
slice_bounds-put_node-start c = omega (arith, c.requires.small_terms.ended)

pub slice_bounds-put_node-end : goal.slice_bounds-put_node-end
slice_bounds-put_node-end c = omega (arith, c.requires.small_terms.ended)

pub put_node-requires : goal.put_node-requires
put_node-requires c =
    let at = goal.at.put_node-requires c in
    let terms = c.requires.small_terms in
    record {
      terms = rw (later_lent c.args.month c.args.chances.now) (node_terms terms c.args.node.level c.requires.level_bound);
      month_bound = (omega (arith, terms.ended, terms.months_few), terms.weights_fit);
      level_in_bounds = omega (arith, c.requires.left_in_bounds, ap length (node at.Then-leads (found at.After-leads)));
    }

pub returns-then-leads : goal.returns-then-leads
returns-then-leads c = let at = goal.at.returns-then-leads c in appended_as (node at.Then-leads (found at.After-leads)) c.put_node.ensures

pub returns : goal.returns
returns c =
    let a = c.args in
    appended_nothing _ a.text.now a.at
    (node_off a.question (small_plan a.opening a.chances.now a.severity.now a.tail) a.month a.node.level a.node.left (sym (found (goal.at.returns c).After-leads) ∙ c.if-leads.false)) c.requires.left_in_bounds
