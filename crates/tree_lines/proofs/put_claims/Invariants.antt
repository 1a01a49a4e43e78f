-- `put_claims` meets its contract. The invariant: the lines of the first i sizes are appended.
use Prim.Native.Nat.{min}
use lib.ListN.{length}
use Rattle.text.proofs.TextLaws.{Appending}
use Rattle.tree_values.specs.Lines.{claim_each}
use Rattle.tree_lines.proofs.put_claims.Given as goal

abbrev pub invariant-loop-i : goal.invariant-loop-i
invariant-loop-i l = Appending (claim_each l.question l.severity l.month l.later l.node.left l.node.level) (min l.node.level (length l.severity)) l.initial.text l.at l.text l.end l.i
