-- `answers::bounds_of` meets its contract: on an accepted plan, within the limits and with enough workspace, the engine does not refuse. Assumes nothing.
use mathlib.Core.Path.{refl, ◌∙◌}
use Rattle.report_lines.proofs.AskingLaws.{asked, asked_leaves, is_answered, answered_bounds}
use Rattle.report_lines.proofs.answers.bounds_of.Goals as goal

pub unwrap-requires : goal.unwrap-requires
unwrap-requires c =
    let pre = c.requires in
    is_answered _ (c.ask.ensures.answered ∙ asked pre.answerable _ pre.question_value) refl

pub returns : goal.returns
returns c =
    let ask = c.ask.ensures in
    let pre = c.requires in
    record {
      answered = answered_bounds c.unwrap.ensures (ask.answered ∙ asked pre.answerable _ pre.question_value);
      cleared = ask.cleared ∙ asked_leaves pre.answerable _ pre.question_value;
    }
