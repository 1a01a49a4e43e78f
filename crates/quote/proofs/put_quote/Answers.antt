-- `quote::put_quote` meets its contract: the line of the least opening, or of a refusal. Assumes nothing.
use mathlib.Core.Path.{refl, sym, ap, ◌∙◌}
use Rattle.model.proofs.RefusalNumbers.{not_accepted}
use Rattle.report_lines.specs.Lines.{refused_line}
use Rattle.quote.proofs.Laws.{answer_shown, answer_refused}
use Rattle.quote.proofs.put_quote.Goals as goal

pub returns-in-Ok : goal.returns-in-Ok
returns-in-Ok c = rw (c.in-Ok.ensures ∙ answer_shown _ refl) c.put_least.ensures

pub returns-in-Err : goal.returns-in-Err
returns-in-Err c = rw (c.in-Err.ensures ∙ answer_refused _ (not_accepted c.in-Err.refusal _ refl) ∙ ap refused_line (sym c.number.ensures)) c.put_refused.ensures
