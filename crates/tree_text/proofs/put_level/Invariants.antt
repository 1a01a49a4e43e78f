-- `put_level` meets its contract. The invariant: the nodes with more claims left than now are appended.
use Prim.Native.Nat.{◌+◌, ◌-◌, ◌≤◌}
use Rattle.tree_text.specs.Tree.{small_plan, node_if}
use Rattle.tree_text.proofs.TreeLaws.{Falling}
use Rattle.tree_text.proofs.put_level.Given as goal

abbrev pub invariant-loop-left : goal.invariant-loop-left
invariant-loop-left l =
    record {
      within : l.least ≤ l.left;
      text : Falling (node_if l.question (small_plan l.opening l.chances l.severity l.tail) l.month l.level) l.most (l.most - l.least + 1) l.initial.text l.at l.text l.end l.left;
    }
