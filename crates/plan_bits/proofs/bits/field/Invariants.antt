-- `plan_bits::bits::field` meets its contract. The loop's invariant: the number is that of the field's bits so far.
use mathlib.Core.Path.{◌≡◌}
use lib.ListN.{take, drop}
use Rattle.model.specs.Format.{number, bits_of}
use Rattle.plan_bits.proofs.bits.field.Given as goal

abbrev pub invariant-loop-k : goal.invariant-loop-k
invariant-loop-k l = l.x ≡ number (take l.k (drop l.from (bits_of l.bytes)))
