-- `plan_bits::writing::byte` meets its contract, as `plan_bits::bits::field` does: the number is that of the byte's bits so far.
use mathlib.Core.Path.{◌≡◌}
use lib.ListN.{take, drop}
use Rattle.model.specs.Format.{number, filled_bits}
use Rattle.plan_bits.proofs.writing.byte.Given as goal

abbrev pub invariant-loop-k : goal.invariant-loop-k
invariant-loop-k l = l.x ≡ number (take l.k (drop l.from (filled_bits l.head l.row)))
