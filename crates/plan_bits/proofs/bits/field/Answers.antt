use Prim.Native.Nat.{◌+◌, ◌*◌, ◌^◌, ◌<◌}
use mathlib.Core.Path.{◌≡◌, refl, ap, ◌∙◌}
use native.Mathlib.Omega.{arith}
use lib.ListN.{length, get_or, take, drop}
use Rattle.model.specs.Format.{number, bits_of}
use Rattle.plan_bits.proofs.Fields.{field_next, field_fits}
use Rattle.plan_bits.proofs.PlanBits.{length_bits_of, bits_bits_of}
use Rattle.plan_bits.proofs.bits.field.Goals as goal
use Rattle.plan_bits.proofs.bits.field.Goals.{In-loop-k}

pub loop-k-init : goal.loop-k-init
unfolding number
loop-k-init c = refl

inside : (c : In-loop-k) → c.args.from + c.loop-k.k < length (bits_of c.args.bytes.now)
inside c = rw length_bits_of (omega arith)

-- the bits so far and the next one are a number of 31 bits
turn : (c : In-loop-k) → c.loop-k.x * 2 + get_or (bits_of c.args.bytes.now) (c.args.from + c.loop-k.k) 0 < 2 ^ 31
turn c = field_fits _ _ _ _ _ c.loop-k.invariant refl (rw length_bits_of (omega arith)) 31 (bits_bits_of _) (omega arith)

pub overflow_mul-x : goal.overflow_mul-x
overflow_mul-x c = omega (arith, turn (goal.at.overflow_mul-x c).In-loop-k)

pub overflow_add-from : goal.overflow_add-from
overflow_add-from c = omega arith

pub overflow_add-x : goal.overflow_add-x
overflow_add-x c = omega (arith, turn (goal.at.overflow_add-x c).In-loop-k, c.bit.ensures)

pub loop-k-preserved : goal.loop-k-preserved
loop-k-preserved c = field_next _ _ _ _ _ c.loop-k.invariant c.bit.ensures (inside (goal.at.loop-k-preserved c).In-loop-k)

pub returns : goal.returns
returns c =
    let whole : c.loop-k.k ≡ c.args.width = omega arith in
    c.loop-k.invariant ∙ ap (λ k. number (take k (drop c.args.from (bits_of c.args.bytes.now)))) whole
