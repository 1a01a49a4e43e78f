-- `report_text::put_plan` meets its contract: the head line and the groups of lines, one after another. Assumes nothing.
use Prim.Native.Nat.{ℕ, ◌+◌}
use mathlib.Core.Path.{◌≡◌, ◌∙◌}
use native.Mathlib.Omega.{arith}
use lib.ListN.{length}
use Rattle.model.specs.declared.Question.TheVariants.{Survive, Both, High, Low}
use Rattle.model.specs.Limits.{max_months}
use Rattle.model.proofs.Facts.{HeadFacts, head_facts, accepted_head}
use Rattle.text.proofs.TextLaws.{appended_more}
use Rattle.report_lines.specs.Asking.{Answerable}
use Rattle.report_lines.proofs.AskingLaws.{cleared_more}
use Rattle.report_groups.specs.Groups.{most_lines}
use Rattle.report_lines.proofs.LineLaws.{question_short, head_ends}
use Rattle.report_groups.proofs.GroupLaws.{claims_end, Leaves, group_leaves}
use Rattle.report_text.specs.Report.{plan_report}
use Rattle.report_text.proofs.put_plan.Goals as goal
use Rattle.report_text.proofs.put_plan.Goals.{After-put_counts-end, After-put_group-end, After-put_group-end-2, After-put_group-end-3, After-put_group-end-4, After-put_head-end, Start}

known : (c : Start) → HeadFacts c.args.head
known c = head_facts _ (accepted_head _ _ c.requires.answerable.accepted)

-- the lines that follow each call
abbrev past_high : ℕ
past_high = most_lines (Low 0) + (max_months + 1)

abbrev past_both : ℕ
past_both = most_lines (High 0) + most_lines (Low 0) + (max_months + 1)

abbrev past_claims : ℕ
past_claims = most_lines (Both 0) + most_lines (High 0) + most_lines (Low 0) + (max_months + 1)

abbrev past_survive : ℕ
past_survive = (max_months + 1) + most_lines (Both 0) + most_lines (High 0) + most_lines (Low 0) + (max_months + 1)

abbrev past_head : ℕ
past_head = most_lines Survive + (max_months + 1) + most_lines (Both 0) + most_lines (High 0) + most_lines (Low 0) + (max_months + 1)

-- the room that each call leaves
after_head : (c : After-put_head-end) → Leaves c.args.text.now c.put_head-end.new.text c.put_head-end.result past_head
after_head c = record { long = c.put_head-end.auto.text; room = omega (arith, head_ends _ c.put_head-end.ensures) }

after_survive :
    (c : After-put_group-end) → HeadFacts c.args.head → Leaves c.args.text.now c.put_head-end.new.text c.put_head-end.result past_head
    → Leaves c.args.text.now c.put_group-end.new.text c.put_group-end.result past_survive
after_survive c of left =
    group_leaves _ _ Survive _ (question_short _) of left (omega arith) c.put_group-end.auto.text c.put_group-end.ensures.written

after_claims :
    (c : After-put_counts-end) → HeadFacts c.args.head → Leaves c.args.text.now c.put_group-end.new.text c.put_group-end.result past_survive
    → Leaves c.args.text.now c.put_counts-end.new.text c.put_counts-end.result past_claims
after_claims c of left =
    record {
      long = c.put_counts-end.auto.text ∙ left.long;
      room = omega (arith, left.room, claims_end _ _ c.put_counts-end.ensures, of.months_fit);
    }

after_both :
    (c : After-put_group-end-2) → HeadFacts c.args.head → Leaves c.args.text.now c.put_counts-end.new.text c.put_counts-end.result past_claims
    → Leaves c.args.text.now c.put_group-end-2.new.text c.put_group-end-2.result past_both
after_both c of left =
    group_leaves _ _ (Both 0) _ (question_short _) of left (omega arith) c.put_group-end-2.auto.text c.put_group-end-2.ensures.written

after_high :
    (c : After-put_group-end-3) → HeadFacts c.args.head → Leaves c.args.text.now c.put_group-end-2.new.text c.put_group-end-2.result past_both
    → Leaves c.args.text.now c.put_group-end-3.new.text c.put_group-end-3.result past_high
after_high c of left =
    group_leaves _ _ (High 0) _ (question_short _) of left (omega arith) c.put_group-end-3.auto.text c.put_group-end-3.ensures.written

after_low :
    (c : After-put_group-end-4) → HeadFacts c.args.head → Leaves c.args.text.now c.put_group-end-3.new.text c.put_group-end-3.result past_high
    → Leaves c.args.text.now c.put_group-end-4.new.text c.put_group-end-4.result (max_months + 1)
after_low c of left =
    group_leaves _ _ (Low 0) _ (question_short _) of left (omega arith) c.put_group-end-4.auto.text c.put_group-end-4.ensures.written

-- and the workspace is as long as it was, after the calls that it is lent to
workspace_long : (c : After-put_group-end-3) → length c.put_group-end-3.new.workspace ≡ length c.args.workspace.now
workspace_long c = c.put_group-end-3.auto.workspace ∙ c.put_group-end-2.auto.workspace ∙ c.put_group-end.auto.workspace

still : (c : After-put_group-end-3) → Answerable c.args.head c.args.row.now c.put_group-end-3.new.workspace
still c = record { accepted = c.requires.answerable.accepted; room = omega (arith, c.requires.answerable.room, workspace_long c) }

pub put_group-end-requires : goal.put_group-end-requires
put_group-end-requires c =
    let at = goal.at.put_group-end-requires c in
    let left = after_head at.After-put_head-end in
    record { answerable = c.requires.answerable; line_room_in_bounds = omega (arith, left.long, left.room) }

pub put_counts-end-requires : goal.put_counts-end-requires
put_counts-end-requires c =
    let at = goal.at.put_counts-end-requires c in
    let of = known at.Start in
    let left = after_survive at.After-put_group-end of (after_head at.After-put_head-end) in
    record { accepted = c.requires.answerable.accepted; line_room_in_bounds = omega (arith, left.long, left.room, of.months_fit) }

pub put_group-end-requires-2 : goal.put_group-end-requires-2
put_group-end-requires-2 c =
    let at = goal.at.put_group-end-requires-2 c in
    let of = known at.Start in
    let left = after_claims at.After-put_counts-end of (after_survive at.After-put_group-end of (after_head at.After-put_head-end)) in
    record {
      answerable =
          record { accepted = c.requires.answerable.accepted; room = omega (arith, c.requires.answerable.room, c.put_group-end.auto.workspace) };
      line_room_in_bounds = omega (arith, left.long, left.room);
    }

pub put_group-end-requires-3 : goal.put_group-end-requires-3
put_group-end-requires-3 c =
    let at = goal.at.put_group-end-requires-3 c in
    let of = known at.Start in
    let left = after_both at.After-put_group-end-2 of (after_claims at.After-put_counts-end of (after_survive at.After-put_group-end of (after_head at.After-put_head-end))) in
    record {
      answerable =
          record {
            accepted = c.requires.answerable.accepted;
            room = omega (arith, c.requires.answerable.room, c.put_group-end-2.auto.workspace, c.put_group-end.auto.workspace);
          };
      line_room_in_bounds = omega (arith, left.long, left.room);
    }

pub put_group-end-requires-4 : goal.put_group-end-requires-4
put_group-end-requires-4 c =
    let at = goal.at.put_group-end-requires-4 c in
    let of = known at.Start in
    let left = after_high at.After-put_group-end-3 of (after_both at.After-put_group-end-2 of (after_claims at.After-put_counts-end of (after_survive at.After-put_group-end of (after_head at.After-put_head-end)))) in
    record { answerable = still at.After-put_group-end-3; line_room_in_bounds = omega (arith, left.long, left.room) }

pub put_ruins-requires : goal.put_ruins-requires
put_ruins-requires c =
    let at = goal.at.put_ruins-requires c in
    let of = known at.Start in
    let left = after_low at.After-put_group-end-4 of (after_high at.After-put_group-end-3 of (after_both at.After-put_group-end-2 of (after_claims at.After-put_counts-end of (after_survive at.After-put_group-end of (after_head at.After-put_head-end))))) in
    record {
      answerable =
          record {
            accepted = c.requires.answerable.accepted;
            room = omega (arith, c.requires.answerable.room, workspace_long at.After-put_group-end-3, c.put_group-end-4.auto.workspace);
          };
      line_room_in_bounds = omega (arith, left.long, left.room, of.months_fit);
    }

pub returns : goal.returns
unfolding plan_report
returns c =
    record {
      written =
          appended_more
          (appended_more
          (appended_more
          (appended_more
          (appended_more (appended_more c.put_head-end.ensures c.put_group-end.ensures.written) c.put_counts-end.ensures)
          c.put_group-end-2.ensures.written)
          c.put_group-end-3.ensures.written)
          c.put_group-end-4.ensures.written)
          c.put_ruins.ensures.written;
      cleared =
          cleared_more
          (cleared_more
          (cleared_more (cleared_more c.put_group-end.ensures.cleared c.put_group-end-2.ensures.cleared) c.put_group-end-3.ensures.cleared)
          c.put_group-end-4.ensures.cleared)
          c.put_ruins.ensures.cleared;
    }
