-- `plan_bits::writing::encode` meets its contract: the bytes fill with fields of 8 bits.
use Prim.Native.Nat.{◌*◌}
use lib.ListN.{take, drop}
use Rattle.model.specs.Format.{number, filled_bits}
use Rattle.model.proofs.Filling.{Filling}
use Rattle.plan_bits.proofs.writing.encode.Given as goal

abbrev pub invariant-loop-i : goal.invariant-loop-i
invariant-loop-i l = Filling (λ k. number (take 8 (drop (8 * k) (filled_bits l.head l.row)))) l.initial.bytes l.bytes l.i
