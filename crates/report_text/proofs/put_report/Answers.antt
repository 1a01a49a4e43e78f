-- `report_text::put_report` meets its contract, from the plan that is read. Assumes nothing.
use mathlib.Core.Path.{sym, ap, ◌∙◌}
use borrow.Author.Rules.{rules}
use Rattle.model.proofs.RefusalNumbers.{not_accepted}
use Rattle.report_lines.specs.Lines.{refused_line}
use Rattle.codec.proofs.PlanRead.{PlanRead, plan_read, plan_unread}
use Rattle.report_lines.proofs.AskingLaws.{nothing_cleared}
use Rattle.report_text.proofs.Laws.{report_accepted, report_refused, needs_accepted, needs_refused}
use Rattle.report_text.proofs.put_report.Goals as goal
use Rattle.report_text.proofs.put_report.Goals.{In-Ok}

read : (c : In-Ok) → PlanRead c.args.bytes.now c.in-Ok.plan
read c = plan_read c.args.bytes.now c.in-Ok.ensures

pub put_accepted-requires : goal.put_accepted-requires
put_accepted-requires c =
    let plan = read (goal.at.put_accepted-requires c).In-Ok in
    record { answerable = record { accepted = rw (plan.head, plan.row) plan.accepted; room = search rules }; text_room_in_bounds = search rules }

pub returns-in-Ok : goal.returns-in-Ok
returns-in-Ok c =
    let plan = read (goal.at.returns-in-Ok c).In-Ok in
    record {
      written = rw (report_accepted _ plan.none, ← plan.row, ← plan.head) c.put_accepted.ensures.written;
      cleared = rw (needs_accepted _ plan.none, ← plan.head) c.put_accepted.ensures.cleared;
    }

pub returns-in-Err : goal.returns-in-Err
returns-in-Err c =
    let number = plan_unread c.args.bytes.now c.in-Err.refusal c.in-Err.ensures in
    record {
      written = rw (report_refused _ (not_accepted _ _ number) ∙ ap refused_line (sym number ∙ sym c.number.ensures)) c.put_refused.ensures;
      cleared = rw (needs_refused _ (not_accepted _ _ number)) (nothing_cleared _);
    }
