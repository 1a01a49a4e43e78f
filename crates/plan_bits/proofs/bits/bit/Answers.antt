-- `plan_bits::bits::bit` meets its contract: bytes are fields of 8 bits.
use Prim.Native.Nat.{ℕ, ◌/◌, ◌%◌, ◌^◌, ◌-◌}
use mathlib.Core.Path.{sym, ap, ◌∙◌}
use lib.Dec.{lit<}
use Rattle.model.specs.Format.{bits_of}
use Rattle.plan_bits.proofs.Fields.{flat_digit}
use Rattle.plan_bits.proofs.bits.bit.Goals as goal

pub returns : goal.returns
unfolding bits_of
returns c =
    c.digit.ensures
    ∙ ap (λ (byte : ℕ). byte / 2 ^ (7 - c.args.at % 8) % 2) c.from-byte.ensures
    ∙ sym (flat_digit 8 _ _ (lit< tt))
