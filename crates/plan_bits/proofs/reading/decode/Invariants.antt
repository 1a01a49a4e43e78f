-- `plan_bits::reading::decode` meets its contract: the row fills with fields of `number_width` bits.
use Prim.Native.Nat.{◌*◌}
use lib.ListN.{take, drop}
use Rattle.model.specs.Format.{number_width, number, head_bits, bits_of}
use Rattle.model.proofs.Filling.{Filling}
use Rattle.plan_bits.proofs.reading.decode.Given as goal

abbrev pub invariant-loop-i : goal.invariant-loop-i
invariant-loop-i l = Filling (λ k. number (take number_width (drop (number_width * k) (drop head_bits (bits_of l.bytes))))) l.initial.row l.row l.i
