-- `number_of` meets its contract. The loop's invariant: the bytes passed are digits, and the number is what they spell. Assumes nothing.
use Rattle.arguments.proofs.Spelling.{Spelling}
use Rattle.arguments.proofs.number_of.Given as goal

abbrev pub invariant-loop-byte : goal.invariant-loop-byte
invariant-loop-byte l = Spelling l.argument l.number l.byte-index
