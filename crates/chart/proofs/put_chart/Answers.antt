-- `chart::put_chart` meets its contract, from the plan that is read.
use mathlib.Core.Path.{sym, ap, ◌∙◌}
use borrow.Author.Rules.{rules}
use Rattle.model.proofs.RefusalNumbers.{not_accepted}
use Rattle.report_lines.specs.Lines.{refused_line}
use Rattle.codec.proofs.PlanRead.{PlanRead, plan_read, plan_unread}
use Rattle.chart.proofs.Laws.{chart_accepted, chart_refused}
use Rattle.chart.proofs.put_chart.Goals as goal
use Rattle.chart.proofs.put_chart.Goals.{In-Ok}

read : (c : In-Ok) → PlanRead c.args.bytes.now c.in-Ok.plan
read c = plan_read c.args.bytes.now c.in-Ok.ensures

pub put_plan-requires : goal.put_plan-requires
put_plan-requires c =
    let plan = read (goal.at.put_plan-requires c).In-Ok in
    record { accepted = rw (plan.head, plan.row) plan.accepted; text_room_in_bounds = search rules }

pub returns-in-Ok : goal.returns-in-Ok
returns-in-Ok c =
    let plan = read (goal.at.returns-in-Ok c).In-Ok in
    rw (chart_accepted _ plan.none, ← plan.row, ← plan.head) c.put_plan.ensures

pub returns-in-Err : goal.returns-in-Err
returns-in-Err c =
    let number = plan_unread c.args.bytes.now c.in-Err.refusal c.in-Err.ensures in
    rw (chart_refused _ (not_accepted _ _ number) ∙ ap refused_line (sym number ∙ sym c.number.ensures)) c.put_refused.ensures
