-- `put_report` meets its contract, from the mixture that is read.
use mathlib.Core.Path.{sym, ap, ◌∙◌}
use borrow.Author.Rules.{rules}
use Rattle.model.proofs.RefusalNumbers.{not_accepted}
use Rattle.report_lines.specs.Lines.{refused_line}
use Rattle.report_lines.proofs.AskingLaws.{nothing_cleared}
use Rattle.mixture_text.proofs.Laws.{report_accepted, report_refused, needs_accepted, needs_refused}
use Rattle.mixture_text.proofs.put_report.Goals as goal

pub put_accepted-requires : goal.put_accepted-requires
put_accepted-requires c =
    let known = c.in-Ok.ensures.read in
    record {
      mixture_answerable = record { accepted = known.accepted; heads_long = known.heads_long; weights_long = known.weights_long; room = search rules };
      mixture_text_room_in_bounds = (search rules, known.within);
    }

pub returns-in-Ok : goal.returns-in-Ok
returns-in-Ok c =
    let known = c.in-Ok.ensures.read in
    let none = sym c.in-Ok.ensures.number in
    record {
      written = rw (report_accepted _ none, ← known.components, ← known.head) c.put_accepted.ensures.written;
      cleared = rw (needs_accepted _ none, ← known.head) c.put_accepted.ensures.cleared;
    }

pub returns-in-Err : goal.returns-in-Err
returns-in-Err c =
    let number = c.in-Err.ensures.number in
    record {
      written = rw (report_refused _ (not_accepted _ _ number) ∙ ap refused_line (sym number ∙ sym c.number.ensures)) c.put_refused.ensures;
      cleared = rw (needs_refused _ (not_accepted _ _ number)) (nothing_cleared _);
    }
