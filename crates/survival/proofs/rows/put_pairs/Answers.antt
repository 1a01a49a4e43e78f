use Prim.Native.Nat.{◌+◌, ◌*◌, ◌-◌, ◌<◌}
use mathlib.Core.Path.{◌≡◌, sym, ap, ◌∙◌}
use native.Mathlib.Omega.{arith}
use borrow.Rule.Slice.PartMut.{mid_of}
use lib.ListN.{length, get_or, take, drop, length-drop, length-set}
use lib.Seq.{take_all, length-take-le}
use Rattle.model.proofs.Filling.{filling_none}
use Rattle.claims.specs.Values.{from_top}
use Rattle.survival.proofs.PairLaws.{pair_more, pairs_done}
use Rattle.survival.proofs.rows.put_pairs.Goals as goal
use Rattle.survival.proofs.rows.put_pairs.Goals.{After-value_at-lower, After-value_at-upper}

pub loop-level-init : goal.loop-level-init
loop-level-init c = filling_none _ _

-- both halves as they are lent
second_half : (c : After-value_at-lower) → let a = c.args in mid_of a.half (length a.halves.now - a.half) a.halves.now ≡ drop a.half a.halves.now
second_half c =
    let a = c.args in
    take_all (length a.halves.now - a.half) (drop a.half a.halves.now) (omega (arith, length-drop a.half a.halves.now))

pub slice_bounds-value_at-end : goal.slice_bounds-value_at-end
slice_bounds-value_at-end c = sym (length-take-le c.args.half c.args.halves.now (omega (arith, c.requires.top_lt_half.1)))

pub value_at-lower-requires : goal.value_at-lower-requires
value_at-lower-requires c =
    let size = length-take-le c.args.half c.args.halves.now (omega (arith, c.requires.top_lt_half.1)) in
    (omega (arith, c.loop-level-test.true), omega (arith, size, c.requires.top_lt_half.0))

pub slice_bounds-value_at-count : goal.slice_bounds-value_at-count
slice_bounds-value_at-count c = omega (arith, c.requires.top_lt_half.1)

pub slice_bounds-value_at-start : goal.slice_bounds-value_at-start
slice_bounds-value_at-start c = omega (arith, c.requires.top_lt_half.1)

pub value_at-upper-requires : goal.value_at-upper-requires
value_at-upper-requires c =
    let size = ap length (second_half (goal.at.value_at-upper-requires c).After-value_at-lower) ∙ length-drop c.args.half c.args.halves.now in
    (omega (arith, c.loop-level-test.true), omega (arith, size, c.requires.top_lt_half.0, c.requires.top_lt_half.1))

-- room for both numbers
room : (c : After-value_at-upper) → 2 * c.loop-level.level + 1 < length c.loop-level.pairs
room c = omega (arith, c.loop-level.invariant.same, c.requires.pairs_len, c.loop-level-test.true)

pub bounds-pairs-place : goal.bounds-pairs-place
bounds-pairs-place c = omega (arith, room (goal.at.bounds-pairs-place c).After-value_at-upper)

pub bounds-pairs-place-in-loop-level : goal.bounds-pairs-place-in-loop-level
bounds-pairs-place-in-loop-level c = simp length-set (room (goal.at.bounds-pairs-place-in-loop-level c).After-value_at-upper)

pub loop-level-preserved : goal.loop-level-preserved
loop-level-preserved c =
    let a = c.args in
    let low = from_top a.top (take a.half a.halves.now) in
    let high = from_top a.top (drop a.half a.halves.now) in
    pair_more low high a.pairs.now c.loop-level.pairs c.loop-level.level c.loop-level.invariant c.value_at-lower.result c.value_at-upper.result (room (goal.at.loop-level-preserved c).After-value_at-upper) c.value_at-lower.ensures
    (c.value_at-upper.ensures ∙ ap (λ l. get_or l (a.top - c.loop-level.level) 0) (second_half (goal.at.loop-level-preserved c).After-value_at-lower))

pub shape_of-pairs : goal.shape_of-pairs
shape_of-pairs c = c.loop-level.invariant.same

pub returns : goal.returns
returns c =
    let a = c.args in
    let low = from_top a.top (take a.half a.halves.now) in
    let high = from_top a.top (drop a.half a.halves.now) in
    pairs_done low high a.pairs.now c.loop-level.pairs c.loop-level.level c.loop-level.invariant (a.top + 1) c.requires.pairs_len (omega (arith, c.loop-level-test.false))
