-- `put_first` meets its contract.
use mathlib.Core.Path.{sym, ap, ◌∙◌}
use native.Mathlib.Omega.{arith}
use Rattle.report_lines.specs.Lines.{refused_line}
use Rattle.text.proofs.TextLaws.{appended_none, appended_as}
use Rattle.tree_text.specs.Rooms.{level_lines}
use Rattle.tree_text.proofs.TreeLaws.{first_is, later_empty}
use Rattle.tree_text.proofs.put_first.Goals as goal

pub put_refused-requires : goal.put_refused-requires
unfolding level_lines
put_refused-requires c = omega (arith, c.requires)

pub returns-then-month-eq0 : goal.returns-then-month-eq0
returns-then-month-eq0 c = let a = c.args in appended_as (first_is a.month _ c.if-month-eq0.true ∙ ap refused_line (sym c.number.ensures)) c.put_refused.ensures

pub returns : goal.returns
returns c = let a = c.args in appended_as (later_empty a.month _ c.if-month-eq0.false) (appended_none a.text.now 0 (omega arith))
