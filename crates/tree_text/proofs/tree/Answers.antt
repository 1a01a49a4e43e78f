-- `tree` meets its contract: the part is appended to none, and stands before what the buffer had past it.
use native.Mathlib.Omega.{arith}
use Rattle.text.proofs.TextLaws.{appended_whole}
use Rattle.tree_text.specs.Rooms.{level_lines}
use Rattle.tree_text.proofs.tree.Goals as goal

pub put_tree-requires : goal.put_tree-requires
unfolding level_lines
put_tree-requires c = omega arith

pub returns : goal.returns
returns c = let both = appended_whole c.put_tree.ensures in record { answered = both.0; written = both.1.0; within = both.1.1 }
