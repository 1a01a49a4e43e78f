use Prim.Native.Nat.{ℕ, ◌+◌, ◌*◌, ◌^◌, ◌<◌}
use mathlib.Core.Path.{◌≡◌, refl, sym, ◌∙◌}
use native.Mathlib.Omega.{arith}
use lib.Dec.{lit≤}
use lib.ListN.{length, get_or, take, drop}
use Rattle.model.specs.Format.{number, filled_bits}
use Rattle.model.proofs.Facts.{facts, accepted_head}
use Rattle.model.proofs.Rooms.{byte_length_fits, longest_between}
use Rattle.plan_bits.proofs.Fields.{field_next, field_fits, number_fits}
use Rattle.plan_bits.proofs.PlanBits.{length_filled, filled_at, bits_filled}
use Rattle.plan_bits.proofs.writing.byte.Goals as goal
use Rattle.plan_bits.proofs.writing.byte.Goals.{After-bit, After-loop-k, In-loop-k}

pub loop-k-init : goal.loop-k-init
unfolding number
loop-k-init c = refl

-- the byte lies within the plan's bits
inside : (c : In-loop-k) → c.args.from + c.loop-k.k < length (filled_bits c.args.head c.args.row.now)
inside c = rw (length_filled c.args.head _ (facts _ _ c.requires.0).row_is) (omega arith)

-- the bits so far and the next one are a byte
turn : (c : In-loop-k) (b : ℕ) → b ≡ get_or (filled_bits c.args.head c.args.row.now) (c.args.from + c.loop-k.k) 0 → c.loop-k.x * 2 + b < 2 ^ 8
turn c b next = field_fits _ _ _ _ _ c.loop-k.invariant next (rw (length_filled c.args.head _ (facts _ _ c.requires.0).row_is) (omega arith)) 8 (bits_filled _ _) (omega arith)

next_bit : (c : After-bit) → c.bit.result ≡ get_or (filled_bits c.args.head c.args.row.now) (c.args.from + c.loop-k.k) 0
next_bit c = c.bit.ensures ∙ sym (filled_at c.args.head _ _)

pub overflow_mul-x : goal.overflow_mul-x
overflow_mul-x c = omega (arith, turn (goal.at.overflow_mul-x c).In-loop-k _ refl)

pub overflow_add-from : goal.overflow_add-from
overflow_add-from c = omega (arith, longest_between, byte_length_fits _ (accepted_head _ _ c.requires.0))

pub overflow_add-x : goal.overflow_add-x
overflow_add-x c = omega (arith, turn (goal.at.overflow_add-x c).In-loop-k _ (next_bit (goal.at.overflow_add-x c).After-bit))

pub loop-k-preserved : goal.loop-k-preserved
loop-k-preserved c = field_next _ _ _ _ _ c.loop-k.invariant (next_bit (goal.at.loop-k-preserved c).After-bit) (inside (goal.at.loop-k-preserved c).In-loop-k)

-- all eight bits
whole : (c : After-loop-k) → c.loop-k.x ≡ number (take 8 (drop c.args.from (filled_bits c.args.head c.args.row.now)))
whole c =
    let eight : c.loop-k.k ≡ 8 = omega arith in
    rw (← eight) c.loop-k.invariant

pub overflow_cast-result : goal.overflow_cast-result
overflow_cast-result c =
    omega (arith, whole (goal.at.overflow_cast-result c).After-loop-k, number_fits (filled_bits c.args.head c.args.row.now) c.args.from 8 8 (bits_filled _ _) (lit≤ tt))

pub returns : goal.returns
returns c = whole (goal.at.returns c).After-loop-k
