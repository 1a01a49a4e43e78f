-- `put_mixture` meets its contract: the head line and the groups of lines, one after another.
use Prim.Native.Nat.{◌+◌}
use native.Mathlib.Omega.{arith}
use Rattle.model.specs.declared.Question.TheVariants.{Survive, Both, High, Low}
use Rattle.model.proofs.Facts.{head_facts}
use Rattle.text.proofs.TextLaws.{appended_more}
use Rattle.report_lines.specs.Asking.{Cleared}
use Rattle.report_lines.proofs.AskingLaws.{cleared_more}
use Rattle.report_lines.proofs.LineLaws.{head_ends}
use Rattle.report_groups.specs.Groups.{most_lines}
use Rattle.report_groups.proofs.GroupLaws.{Leaves, group_leaves}
use Rattle.mixture_lines.specs.Lines.{mixture_report, mixture_needs}
use Rattle.mixture_lines.proofs.AskingLaws.{mixture_short, head_ok, answerable_still}
use Rattle.mixture_lines.proofs.put_mixture.Goals as goal
use Rattle.mixture_lines.proofs.put_mixture.Goals.{After-put_head-end, After-put_group-end, After-put_group-end-2, After-put_group-end-3, After-put_group}

-- the room that each call leaves
after_head :
    (c : After-put_head-end) → Leaves c.args.text.now c.put_head-end.new.text c.put_head-end.result (most_lines Survive + most_lines (Both 0) + most_lines (High 0) + most_lines (Low 0))
after_head c = record { long = c.put_head-end.auto.text; room = omega (arith, head_ends _ c.put_head-end.ensures, c.requires.mixture_text_room_in_bounds) }

after_survive :
    (c : After-put_group-end) → let a = c.args in
    Leaves a.text.now c.put_head-end.new.text c.put_head-end.result (most_lines Survive + most_lines (Both 0) + most_lines (High 0) + most_lines (Low 0)) →
    Leaves a.text.now c.put_group-end.new.text c.put_group-end.result (most_lines (Both 0) + most_lines (High 0) + most_lines (Low 0))
after_survive c left =
    group_leaves _ _ Survive _ (mixture_short _) (head_facts _ (head_ok c.requires.mixture_answerable)) left (omega arith) c.put_group-end.auto.text c.put_group-end.ensures.written

after_both :
    (c : After-put_group-end-2) → let a = c.args in
    Leaves a.text.now c.put_group-end.new.text c.put_group-end.result (most_lines (Both 0) + most_lines (High 0) + most_lines (Low 0)) →
    Leaves a.text.now c.put_group-end-2.new.text c.put_group-end-2.result (most_lines (High 0) + most_lines (Low 0))
after_both c left =
    group_leaves _ _ (Both 0) _ (mixture_short _) (head_facts _ (head_ok c.requires.mixture_answerable)) left (omega arith) c.put_group-end-2.auto.text c.put_group-end-2.ensures.written

after_high :
    (c : After-put_group-end-3) → let a = c.args in
    Leaves a.text.now c.put_group-end-2.new.text c.put_group-end-2.result (most_lines (High 0) + most_lines (Low 0)) →
    Leaves a.text.now c.put_group-end-3.new.text c.put_group-end-3.result (most_lines (Low 0))
after_high c left =
    group_leaves _ _ (High 0) _ (mixture_short _) (head_facts _ (head_ok c.requires.mixture_answerable)) left (omega arith) c.put_group-end-3.auto.text c.put_group-end-3.ensures.written

-- and what all of them leave of the workspace
all_cleared : (c : After-put_group) → Cleared (mixture_needs c.args.mixture) c.args.workspace.now c.put_group.new.workspace
all_cleared c =
    cleared_more (cleared_more (cleared_more c.put_group-end.ensures.cleared c.put_group-end-2.ensures.cleared) c.put_group-end-3.ensures.cleared) c.put_group.ensures.cleared

pub put_group-end-requires : goal.put_group-end-requires
put_group-end-requires c =
    let left = after_head (goal.at.put_group-end-requires c).After-put_head-end in
    record { answerable = c.requires.mixture_answerable; line_room_in_bounds = omega (arith, left.long, left.room) }

pub put_group-end-requires-2 : goal.put_group-end-requires-2
put_group-end-requires-2 c =
    let at = goal.at.put_group-end-requires-2 c in
    let left = after_survive at.After-put_group-end (after_head at.After-put_head-end) in
    record { answerable = answerable_still c.requires.mixture_answerable c.put_group-end.ensures.cleared; line_room_in_bounds = omega (arith, left.long, left.room) }

pub put_group-end-requires-3 : goal.put_group-end-requires-3
put_group-end-requires-3 c =
    let at = goal.at.put_group-end-requires-3 c in
    let left = after_both at.After-put_group-end-2 (after_survive at.After-put_group-end (after_head at.After-put_head-end)) in
    record {
      answerable = answerable_still (answerable_still c.requires.mixture_answerable c.put_group-end.ensures.cleared) c.put_group-end-2.ensures.cleared;
      line_room_in_bounds = omega (arith, left.long, left.room);
    }

pub put_group-requires : goal.put_group-requires
put_group-requires c =
    let at = goal.at.put_group-requires c in
    let left = after_high at.After-put_group-end-3 (after_both at.After-put_group-end-2 (after_survive at.After-put_group-end (after_head at.After-put_head-end))) in
    record {
      answerable =
          answerable_still
          (answerable_still (answerable_still c.requires.mixture_answerable c.put_group-end.ensures.cleared) c.put_group-end-2.ensures.cleared)
          c.put_group-end-3.ensures.cleared;
      line_room_in_bounds = omega (arith, left.long, left.room);
    }

pub returns : goal.returns
unfolding mixture_report
returns c =
    record {
      written =
          appended_more
          (appended_more
          (appended_more (appended_more (rw c.head.ensures at c.put_head-end.ensures) c.put_group-end.ensures.written) c.put_group-end-2.ensures.written)
          c.put_group-end-3.ensures.written)
          c.put_group.ensures.written;
      cleared = all_cleared (goal.at.returns c).After-put_group;
    }
