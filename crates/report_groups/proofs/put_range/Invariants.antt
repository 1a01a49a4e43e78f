-- `put_range` meets its contract. The invariant: the first i lines are appended, and their questions have cleared the workspace. Assumes nothing.
use Rattle.report_groups.proofs.GroupLaws.{Putting}
use Rattle.report_groups.proofs.put_range.Given as goal

abbrev pub invariant-loop-i : goal.invariant-loop-i
invariant-loop-i g l =
    Putting (g.A.Asked.asked_line l.asked) (g.A.Asked.asked_head l.asked) l.question l.first l.count l.initial.text l.at l.initial.workspace l.text l.workspace l.end l.i
