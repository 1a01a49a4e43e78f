-- `chart::put_lines` meets its contract. The invariant: the lines of the first v openings are appended.
use Prim.Native.Nat.{◌+◌}
use Rattle.text.proofs.TextLaws.{Appending}
use Rattle.chart.specs.Chart.{pair_line}
use Rattle.chart.proofs.put_lines.Given as goal

abbrev pub invariant-loop-v : goal.invariant-loop-v
invariant-loop-v l = Appending (pair_line l.bounds) (l.opening + 1) l.initial.text 0 l.text l.end l.v
