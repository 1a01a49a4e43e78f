use Prim.Native.Nat.{◌+◌, ◌≤◌}
use mathlib.Core.Path.{◌≡◌, sym}
use native.Mathlib.Omega.{arith}
use lib.ListN.{length, get_or}
use Rattle.std.proofs.Common.{rules}
use Rattle.model.proofs.Facts.{accepted_head}
use Rattle.model.specs.Plan.{row_length}
use Rattle.mixture_plans.proofs.AlikeLaws.{first_next, matching_start, matching_done, matching_head, matching_inside, matching_numbers, matching_more}
use Rattle.mixture_plans.proofs.is_unlike.Invariants.{no_head}
use Rattle.mixture_plans.proofs.is_unlike.Goals as goal
use Rattle.mixture_plans.proofs.is_unlike.Goals.{Start, Else-ne, then-ne-via-then-ne, then-ne-via-else-ne+then-ne-2}

enough : (c : Start) → c.args.mixture.count ≤ length c.args.mixture.heads
enough c = omega (arith, c.requires.counted.fits, c.requires.counted.heads_long)

pub row_length-step-requires : goal.row_length-step-requires
row_length-step-requires c =
    accepted_head _ _ (first_next _ _ _ no_head (enough (goal.at.row_length-step-requires c).Start) c.requires.counted.some c.requires.row_value).accepted

pub loop-i-init : goal.loop-i-init
loop-i-init c =
    matching_start _ _ _ no_head (enough (goal.at.loop-i-init c).Start) c.requires.counted.some c.requires.row_value _ c.row_length-step.ensures

-- this plan has the first one's head, …
same_head : (c : Else-ne) → get_or c.args.mixture.heads 0 no_head ≡ get_or c.args.mixture.heads c.loop-i.i no_head
same_head c = sym (search (rules, c.if-ne.ensures))

-- … so that its whole row lies in the row
inside : (c : Else-ne) → c.loop-i.start + row_length (get_or c.args.mixture.heads 0 no_head) ≤ length c.args.row.now
inside c =
    matching_inside _ _ _ no_head (omega (arith, c.requires.counted.fits, c.requires.counted.heads_long)) c.requires.counted.some c.requires.row_value _ _ c.loop-i.invariant c.loop-i-test.true
    (same_head c)

pub overflow_add-start : goal.overflow_add-start
overflow_add-start c = omega (arith, inside (goal.at.overflow_add-start c).Else-ne)

pub overflow_add-start-else-ne : goal.overflow_add-start-else-ne
overflow_add-start-else-ne c = omega (arith, inside (goal.at.overflow_add-start-else-ne c).Else-ne, c.row_length-step.ensures)

pub offset_bounds-row-start : goal.offset_bounds-row-start
offset_bounds-row-start c = omega (arith, inside (goal.at.offset_bounds-row-start c).Else-ne)

pub slice_bounds-ne-end : goal.slice_bounds-ne-end
slice_bounds-ne-end c = omega (arith, inside (goal.at.slice_bounds-ne-end c).Else-ne, c.row_length-step.ensures)

pub returns-then-ne : goal.returns-then-ne
returns-then-ne c =
    let known = c.requires.counted in
    elim c.then-ne.branch [
      | then-ne-via-then-ne w ↦
          matching_head _ _ _ no_head (enough (goal.at.returns-then-ne c).Start) known.some c.requires.row_value _ _ c.loop-i.invariant c.loop-i-test.true
          (search (rules, w.if-ne.ensures))
      | then-ne-via-else-ne+then-ne-2 w ↦
          matching_numbers _ _ _ no_head (enough (goal.at.returns-then-ne c).Start) known.some c.requires.row_value _ _ c.loop-i.invariant c.loop-i-test.true
          (sym (search (rules, w.if-ne.ensures))) _ c.row_length-step.ensures (search (rules, w.if-ne-2.ensures))
    ]

pub loop-i-preserved : goal.loop-i-preserved
loop-i-preserved c =
    matching_more _ _ _ no_head (enough (goal.at.loop-i-preserved c).Start) c.requires.counted.some c.requires.row_value _ _ c.loop-i.invariant c.loop-i-test.true
    (same_head (goal.at.loop-i-preserved c).Else-ne) _ c.row_length-step.ensures (search (rules, c.if-ne-2.ensures))

pub returns : goal.returns
returns c =
    matching_done _ _ _ no_head (enough (goal.at.returns c).Start) c.requires.counted.some c.requires.row_value _ _ c.loop-i.invariant c.loop-i-test.false
