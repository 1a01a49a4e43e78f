use Rattle.std.proofs.Common.{arith, ◌^◌, ◌<◌, ◌+◌, ◌∙◌, ◌≡◌, get_or, length-take, length-drop, lit<}
use lib.Seq.{get_or-drop}
use Rattle.std.proofs.lemmas.List.{get_or-take}
use Rattle.numbers.proofs.Bytes.{reading_none, reading_more, more_fits_word}
use Rattle.numbers.proofs.big_endian.Goals as goal
use Rattle.numbers.proofs.big_endian.Goals.{In-loop-byte, After-loop-byte}

pub loop-byte-init : goal.loop-byte-init
loop-byte-init c = reading_none _ _

inside : (c : In-loop-byte) → c.loop-byte.byte-index < c.args.count
inside c = let here = simp (length-take, length-drop) at c.loop-byte-test.true in omega (arith, here)

pub overflow_mul-x : goal.overflow_mul-x
overflow_mul-x c = omega (arith, more_fits_word _ _ _ _ c.loop-byte.invariant 0 (lit< tt) (omega (arith, inside (goal.at.overflow_mul-x c).In-loop-byte)))

pub overflow_add-x : goal.overflow_add-x
overflow_add-x c =
    let bytes = c.args.bytes.now in
    let i = c.loop-byte.byte-index in
    let within = inside (goal.at.overflow_add-x c).In-loop-byte in
    let byte : c.from.result < 2 ^ 8 = omega (arith, c.from.ensures ∙ get_or-take _ _ i 0 (omega (arith, within)) ∙ get_or-drop c.args.at bytes i 0, c.type_inv.bytes (c.args.at + i)) in
    omega (arith, more_fits_word _ _ _ _ c.loop-byte.invariant _ byte (omega (arith, within)))

pub loop-byte-preserved : goal.loop-byte-preserved
loop-byte-preserved c =
    let bytes = c.args.bytes.now in
    let i = c.loop-byte.byte-index in
    let within = inside (goal.at.loop-byte-preserved c).In-loop-byte in
    let next : c.from.result ≡ get_or bytes (c.args.at + i) 0 =
    c.from.ensures ∙ get_or-take _ _ i 0 (omega (arith, within)) ∙ get_or-drop c.args.at bytes i 0
    in
    reading_more _ _ _ _ c.loop-byte.invariant _ next (omega (arith, within)) (omega (arith, next, c.type_inv.bytes (c.args.at + i)))

whole : (c : After-loop-byte) → c.loop-byte.byte-index ≡ c.args.count
whole c =
    let end = simp (length-take, length-drop) at c.loop-byte-test.false in
    let here = simp (length-take, length-drop) at c.loop-byte.auto.byte-index-end in
    omega (arith, end, here, c.requires.0)

pub returns : goal.returns
returns c =
    let all = whole (goal.at.returns c).After-loop-byte in
    let read = c.loop-byte.invariant in
    record { number = rw (← all) read.so_far; fits = rw (← all) read.fits }
