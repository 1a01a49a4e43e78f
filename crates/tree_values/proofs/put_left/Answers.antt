-- `put_left` meets its contract, case by case.
use Rattle.text.proofs.TextLaws.{appended_nothing}
use Rattle.tree_values.proofs.ValueLines.{left_both, left_survive, left_high, left_low}
use Rattle.tree_values.proofs.put_left.Goals as goal

pub put_entry-requires : goal.put_entry-requires
put_entry-requires c = let a = c.args in rw (← left_both a.question a.left _ c.in-Both.is) c.requires

pub returns-in-Survive : goal.returns-in-Survive
returns-in-Survive c = let a = c.args in appended_nothing _ a.text.now a.at (left_survive a.question a.left c.in-Survive.is) c.requires

pub returns-in-Both : goal.returns-in-Both
returns-in-Both c = let a = c.args in rw (left_both a.question a.left _ c.in-Both.is) c.put_entry.ensures

pub returns-in-High : goal.returns-in-High
returns-in-High c = let a = c.args in appended_nothing _ a.text.now a.at (left_high a.question a.left _ c.in-High.is) c.requires

pub returns-in-Low : goal.returns-in-Low
returns-in-Low c = let a = c.args in appended_nothing _ a.text.now a.at (left_low a.question a.left _ c.in-Low.is) c.requires
