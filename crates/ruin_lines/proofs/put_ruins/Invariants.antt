-- `ruin_lines::put_ruins` meets its contract. The invariant: the lines of the first i months, their sums, and the workspace (`Ruining`). Assumes nothing.
use Rattle.model.specs.declared.Question.TheVariants.{Survive}
use Rattle.model.specs.Plan.{plan_of}
use Rattle.report_lines.specs.Asking.{question_needs}
use Rattle.ruin_lines.proofs.RuinLaws.{Ruining}
use Rattle.ruin_lines.proofs.put_ruins.Given as goal

abbrev pub invariant-loop-i : goal.invariant-loop-i
invariant-loop-i l = Ruining (plan_of l.head l.row) (question_needs l.head Survive) l.head.months l.initial.text l.at l.initial.workspace l.text l.workspace l.lines l.i
