-- Laws of the line: what it is for an answer and for a refusal. Assumes nothing.
use Prim.Native.Nat.{ℕ}
use mathlib.Core.Path.{◌≡◌, refl, sym, ap, ◌∙◌}
use mathlib.Core.List.{List}
use borrow.Author.Tests.{ne_eqb}
use Rattle.model.specs.Limits.{row_room, survival_room}
use Rattle.model.specs.Format.{head_of, row_of}
use lib.ListN.{take}
use Rattle.std.specs.Prelude.{Err}
use Rattle.model.specs.declared.refusal.Refusal.{Refusal}
use Rattle.model.specs.Plan.{row_length}
use Rattle.model.specs.Refusal.{refusal_number, read_refusal}
use Rattle.model.proofs.RefusalNumbers.{not_accepted}
use Rattle.codec.specs.declared.BytePlan.{BytePlan}
use Rattle.codec.proofs.PlanRead.{PlanRead}
use Rattle.opening_search.specs.Answers.{LeastAnswer, least_result, least_answer}
use Rattle.report_lines.specs.Lines.{opening_line, refused_line}
use Rattle.quote.specs.Quote.{answer_line, quote_of}

module _ (a : LeastAnswer) where
  pub answer_shown : a.refusal ≡ 0 → answer_line a ≡ opening_line a.opening a.lower a.upper
  unfolding answer_line
  answer_shown none = rw none

  pub answer_refused : (a.refusal ≡ 0 → ⊥) → answer_line a ≡ refused_line a.refusal
  unfolding answer_line
  answer_refused refused = rw (ne_eqb _ 0 refused)

module _ (bytes : List ℕ) (target : ℕ) where
  pub quote_accepted :
      read_refusal bytes row_room ≡ 0
      → quote_of bytes target ≡ answer_line (least_answer (head_of bytes) (row_of bytes) target survival_room)
  unfolding quote_of
  quote_accepted none = rw none

  pub quote_refused : (read_refusal bytes row_room ≡ 0 → ⊥) → quote_of bytes target ≡ refused_line (read_refusal bytes row_room)
  unfolding quote_of
  quote_refused refused = rw (ne_eqb _ 0 refused)

-- the line of the plan that is read, from the answer for the first part of its row, and the line of the refusal where none is read
pub quote_read :
    {bytes : List ℕ} (target : ℕ) {plan : BytePlan} → PlanRead bytes plan → (used room : ℕ) (a : LeastAnswer) → used ≡ row_length plan.head → survival_room ≡ room →
    a ≡ least_answer plan.head (take used plan.row) target room → quote_of bytes target ≡ answer_line a
quote_read {bytes} target {plan} read used room a count sized is =
    quote_accepted bytes target read.none ∙ ap answer_line (sym (is ∙ rw (count, ← sized, read.head, read.row)))

pub quote_unread : (bytes : List ℕ) (target : ℕ) (r : Refusal) → refusal_number r ≡ read_refusal bytes row_room → quote_of bytes target ≡ answer_line (least_result (Err r))
quote_unread bytes target r number =
    quote_refused bytes target (not_accepted r _ number) ∙ ap refused_line (sym number) ∙ sym (answer_refused (least_result (Err r)) (not_accepted r _ refl))
