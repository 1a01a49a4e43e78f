-- The bounds of the line are those that the mixture answers, which does not refuse.
use mathlib.Core.Path.{refl, ap, ◌∙◌}
use Rattle.model.specs.declared.Bounds.{Bounds}
use Rattle.report_lines.proofs.AskingLaws.{is_answered, answered_bounds}
use Rattle.mixture_lines.specs.Lines.{mixture_line}
use Rattle.mixture_lines.proofs.AskingLaws.{asked, asked_clears}
use Rattle.mixture_lines.proofs.MixtureAskedAsked.put_question.Goals as goal

pub unwrap-bounds-requires : goal.unwrap-bounds-requires
unwrap-bounds-requires c =
    let pre = c.requires in
    is_answered _ (c.ask.ensures.answered ∙ asked pre.answerable _ pre.question_value) refl

pub returns : goal.returns
unfolding mixture_line
returns c =
    let pre = c.requires in
    let bounds = answered_bounds c.unwrap-bounds.ensures (c.ask.ensures.answered ∙ asked pre.answerable _ pre.question_value) in
    record {
      written = rw (← ap (λ (b : Bounds). b.lower) bounds, ← ap (λ (b : Bounds). b.upper) bounds, ← c.from-lower.ensures, ← c.from-upper.ensures) c.put_bounds.ensures;
      cleared = asked_clears pre.answerable _ pre.question_value c.ask.ensures.cleared;
    }
