-- `put_month` meets its contract. The invariant: the nodes of the levels above this one are appended.
use Prim.Native.Nat.{◌+◌}
use Rattle.tree_text.specs.Tree.{small_plan, level_text}
use Rattle.tree_text.proofs.TreeLaws.{Falling}
use Rattle.tree_text.proofs.put_month.Given as goal

abbrev pub invariant-loop-level : goal.invariant-loop-level
invariant-loop-level l =
    Falling (level_text l.question (small_plan l.opening l.chances l.severity l.tail) l.month) l.top (l.top + 1) l.initial.text 0 l.text l.end l.level
