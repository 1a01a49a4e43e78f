-- `quote::least_for` meets its contract: the answer for the plan that is read, whose row is the first part of the row read. Assumes nothing.
use mathlib.Core.Path.{sym, ap, ◌∙◌}
use Rattle.model.specs.Refusal.{HeadAccepted}
use Rattle.model.proofs.Facts.{facts, accepted_head}
use Rattle.model.proofs.RefusalNumbers.{handed_on}
use Rattle.codec.proofs.PlanRead.{PlanRead, plan_read, plan_unread}
use Rattle.opening_search.specs.Answers.{least_result}
use Rattle.quote.specs.Quote.{answer_line}
use Rattle.quote.proofs.Laws.{quote_read, quote_unread}
use Rattle.quote.proofs.least_for.Goals as goal
use Rattle.quote.proofs.least_for.Goals.{In_ok-plan}

pub returns-in_err-plan : goal.returns-in_err-plan
returns-in_err-plan c =
    let a = c.args in
    let refusal = c.in_err-plan.field-0.0 in
    quote_unread a.bytes.now a.target refusal (plan_unread a.bytes.now refusal c.in_err-plan.ensures)
    ∙ ap (λ r. answer_line (least_result r)) (sym (handed_on _ _ c.from_residual.ensures.1))

read : (c : In_ok-plan) → PlanRead c.args.bytes.now c.in_ok-plan.plan
read c = plan_read c.args.bytes.now c.in_ok-plan.ensures

head_ok : (c : In_ok-plan) → HeadAccepted c.in_ok-plan.plan.head
head_ok c =
    let plan = plan_read c.args.bytes.now c.in_ok-plan.ensures in
    rw plan.head (accepted_head _ _ plan.accepted)

pub row_length-used-requires : goal.row_length-used-requires
row_length-used-requires c = head_ok (goal.at.row_length-used-requires c).In_ok-plan

pub slice_bounds-least-end : goal.slice_bounds-least-end
slice_bounds-least-end c =
    let plan = read (goal.at.slice_bounds-least-end c).In_ok-plan in
    rw (c.row_length-used.ensures, plan.head, plan.row) (sym (facts _ _ plan.accepted).row_is)

pub returns : goal.returns
returns c =
    quote_read c.args.target (read (goal.at.returns c).In_ok-plan) _ _ _ c.row_length-used.ensures c.blank-workspace.ensures.sized c.least.ensures.answered
