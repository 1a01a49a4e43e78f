-- `node_allowed` meets its contract: the opening, or the end of a month.
use mathlib.Core.Path.{◌∙◌}
use Rattle.tree_nodes.proofs.NodeLaws.{opening_node, later_node}
use Rattle.tree_nodes.proofs.node_allowed.Goals as goal

pub returns-then-month-eq0 : goal.returns-then-month-eq0
returns-then-month-eq0 c =
    let a = c.args in
    c.opening_allowed.ensures ∙ opening_node a.question a.month a.level c.if-month-eq0.true

pub returns : goal.returns
returns c =
    let a = c.args in
    c.level_allowed.ensures ∙ later_node a.question a.month a.level c.if-month-eq0.false
