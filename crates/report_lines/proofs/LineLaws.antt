-- Laws of the report's lines: none is longer than the room for one. Assumes nothing.
use Prim.Native.Nat.{ℕ, ◌+◌, ◌≤◌}
use mathlib.Core.Path.{◌≡◌, refl, sym, ap, ◌∙◌}
use mathlib.Core.List.{List, [], ◌∷◌}
use native.Mathlib.Omega.{arith}
use lib.ListN.{length, length-append}
use Rattle.model.specs.declared.Head.{Head}
use Rattle.model.specs.declared.Question.{Question}
use Rattle.model.specs.declared.Question.TheVariants.{Survive, Both, High, Low}
use Rattle.model.specs.Limits.{places}
use Rattle.model.specs.Plan.{Plan, plan_of}
use Rattle.model.specs.Refusal.{Accepted}
use Rattle.model.proofs.Counts.{length_tabulate, get_d_tabulate}
use Rattle.std.specs.Prelude.{Result, Ok, Err, IsOk}
use Rattle.model.specs.declared.refusal.Refusal.{Refusal}
use Rattle.model.proofs.RefusalNumbers.{not_accepted}
use Rattle.count_row.specs.declared.CountRow.{CountRow}
use Rattle.count_row.specs.Answers.{CountAnswer, count_result, count_refused, count_answer, count_rows}
use Rattle.text.specs.Text.{ascii, Appended}
use Rattle.text.proofs.TextLaws.{entry_at_most, line_at_most}
use Rattle.report_lines.specs.Lines.{head_line, head_room, word_of, bounds_line, question_line, line_room, CountsOf}

pub bounds_short : (q : Question) (low high : ℕ) → length (bounds_line q low high) ≤ line_room
bounds_short Survive low high = omega (arith, line_at_most (word_of Survive) (low ∷ high ∷ []))
bounds_short (Both k) low high = omega (arith, line_at_most (word_of (Both k)) (k ∷ low ∷ high ∷ []))
bounds_short (High L) low high = omega (arith, line_at_most (word_of (High L)) (L ∷ low ∷ high ∷ []))
bounds_short (Low L) low high = omega (arith, line_at_most (word_of (Low L)) (L ∷ low ∷ high ∷ []))

pub question_short : (p : Plan) (q : Question) → length (question_line p q) ≤ line_room
unfolding question_line
question_short p q = bounds_short q _ _

-- where the head line ends
pub head_ends : (h : Head) {b b' : List ℕ} {at end : ℕ} → Appended b at (head_line h) b' end → end ≤ at + head_room
unfolding head_line
head_ends h e =
    omega (
      arith,
      simp length-append at e.ends,
      entry_at_most (ascii "months") (h.months ∷ []),
      entry_at_most (ascii " opening") (h.opening ∷ []),
      entry_at_most (ascii " sizes") (h.sizes ∷ []),
      line_at_most (ascii " income") (h.income ∷ []),
    )

-- What counting answers on an accepted plan
counts_of : (h : Head) (row : List ℕ) → Accepted h row → CountsOf (plan_of h row) (count_answer h row).row.lower (count_answer h row).row.upper
unfolding count_answer count_rows
counts_of h row accepted =
    rw accepted
    (record {
      lowers_long = length_tabulate places _;
      uppers_long = length_tabulate places _;
      lowers_are = get_d_tabulate places _;
      uppers_are = get_d_tabulate places _;
    })

count_number : (h : Head) (row : List ℕ) → Accepted h row → (count_answer h row).refusal ≡ 0
unfolding count_answer
count_number h row accepted = rw accepted refl

module _ (h : Head) (row : List ℕ) (accepted : Accepted h row) where
  pub is_counted : (r : Result CountRow Refusal) → count_result r ≡ count_answer h row → IsOk r
  unfolding count_refused
  is_counted (Ok rows) is = refl
  is_counted (Err e) is = absurd (not_accepted e _ (ap (λ (a : CountAnswer). a.refusal) is) (count_number h row accepted))

  pub counted : {r : Result CountRow Refusal} {rows : CountRow} → r ≡ Ok rows → count_result r ≡ count_answer h row → CountsOf (plan_of h row) rows.lower rows.upper
  counted ok is = rw (ap (λ (a : CountAnswer). a.row) (ap count_result (sym ok) ∙ is)) (counts_of h row accepted)
