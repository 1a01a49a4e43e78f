use mathlib.Core.Path.{◌≡◌, sym, ap, ◌∙◌}
use Prim.Native.Nat.{ℕ, ◌+◌, ◌-◌, ◌<◌, ◌≤◌}
use native.Mathlib.Omega.{arith}
use lib.ListN.{get_or}
use Rattle.model.specs.Scale.{S}
use Rattle.count_row.proofs.CountLaws.{new_from, new_from_start, new_from_turn, new_from_end, new_from_below, place_value, first_value}
use Rattle.count_row.proofs.counts.count_month.Goals as goal
use Rattle.count_row.proofs.counts.count_month.Goals.{At-loop-k}

pub loop-k-init : goal.loop-k-init
loop-k-init c =
    let a = c.args in record { some = omega arith; so_far = sym (new_from_start a.row.now a.round a.chance) }

-- a place that no turn has reached holds what it held
old_part : (c : At-loop-k) (i : ℕ) → i < c.loop-k.k → get_or c.loop-k.row i 0 ≤ S
old_part c i l =
    let a = c.args in
    let k = c.loop-k.k in
    let back : k - 1 + 1 ≡ k = omega arith in
    rw (new_from_below a.row.now a.round a.chance c.loop-k.row (k - 1) i (omega arith) (rw back c.loop-k.invariant.so_far) (omega arith)) (c.requires.1.each i)

pub mixture-requires : goal.mixture-requires
mixture-requires c =
    (c.requires.2, old_part (goal.at.mixture-requires c).At-loop-k (c.loop-k.k - 1) (omega arith), old_part (goal.at.mixture-requires c).At-loop-k (c.loop-k.k - 1 - 1) (omega arith))

pub loop-k-preserved : goal.loop-k-preserved
loop-k-preserved c =
    let loop = c.loop-k in
    let a = c.args in
    let old = a.row.now in
    let back : loop.k - 1 + 1 ≡ loop.k = omega arith in
    let row : loop.row ≡ new_from old a.round a.chance (loop.k - 1 + 1) = rw back loop.invariant.so_far in
    record {
      some = omega arith;
      so_far =
          new_from_turn old a.round a.chance loop.row (loop.k - 1) c.mixture.result (omega arith) row
          (place_value old a.round a.chance loop.row (loop.k - 1) c.mixture.result (omega arith) (omega arith) row c.mixture.ensures);
    }

pub mixture-requires-2 : goal.mixture-requires-2
mixture-requires-2 c =
    (c.requires.2, old_part (goal.at.mixture-requires-2 c).At-loop-k 0 c.loop-k.invariant.some, omega arith)

pub returns : goal.returns
returns c =
    let loop = c.loop-k in
    let a = c.args in
    let old = a.row.now in
    let first : loop.k ≡ 1 = omega arith in
    let row : loop.row ≡ new_from old a.round a.chance 1 = loop.invariant.so_far ∙ ap (new_from old a.round a.chance) first in
    new_from_turn old a.round a.chance loop.row 0 c.mixture-2.result (omega arith) row
    (first_value old a.round a.chance loop.row c.mixture-2.result (omega arith) row c.mixture-2.ensures)
    ∙ new_from_end old a.round a.chance
