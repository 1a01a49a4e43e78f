-- The number so far is that of the bytes so far.
use Rattle.numbers.proofs.Bytes.{Reading}
use Rattle.numbers.proofs.big_endian.Given as goal

abbrev pub invariant-loop-byte : goal.invariant-loop-byte
invariant-loop-byte l = Reading l.bytes l.at l.x l.byte-index
