-- `answers::ruin_of` meets its contract: on an accepted plan, in one of its months and with enough workspace, the engine does not refuse. Assumes nothing.
use mathlib.Core.Path.{refl, ◌∙◌}
use Rattle.report_lines.proofs.AskingLaws.{ruined, ruined_leaves, is_answered, answered_bounds}
use Rattle.report_lines.proofs.answers.ruin_of.Goals as goal

pub unwrap-requires : goal.unwrap-requires
unwrap-requires c =
    let pre = c.requires in
    is_answered _ (c.ruin_in_month.ensures.answered ∙ ruined pre.answerable _ pre.month_value) refl

pub returns : goal.returns
returns c =
    let call = c.ruin_in_month.ensures in
    let pre = c.requires in
    record {
      answered = answered_bounds c.unwrap.ensures (call.answered ∙ ruined pre.answerable _ pre.month_value);
      cleared = call.cleared ∙ ruined_leaves pre.answerable _ pre.month_value;
    }
