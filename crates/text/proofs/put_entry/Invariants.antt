-- `text::put_entry` meets its contract. The invariant: the first numbers are appended after the word. Assumes nothing.
use lib.ListN.{length}
use Rattle.text.specs.Text.{spaced_each}
use Rattle.text.proofs.TextLaws.{Appending}
use Rattle.text.proofs.put_entry.Given as goal

abbrev pub invariant-loop-x : goal.invariant-loop-x
invariant-loop-x l = Appending (spaced_each l.numbers) (length l.numbers) l.initial.buffer l.initial.end l.buffer l.end l.x-index
