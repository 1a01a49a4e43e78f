-- What is known of a call that was not refused: the plan is accepted, and the numbers answered are the definitions'.
use mathlib.Core.Path.{◌≡◌, refl, sym, ap, ◌∙◌}
use mathlib.Core.List.{List}
use Prim.Native.Nat.{ℕ, zero, suc, ◌≤◌, ◌<◌}
use native.Mathlib.Omega.{arith}
use lib.ListN.{get_or}
use borrow.Author.Tests.{ne_eqb}
use Rattle.model.specs.declared.Head.{Head}
use Rattle.model.specs.declared.Ask.{Ask}
use Rattle.model.specs.declared.Rounding.TheVariants.{Down, Up}
use Rattle.model.specs.Limits.{places}
use Rattle.model.specs.Plan.{plan_of, horizon}
use Rattle.model.specs.CountRow.{count_row}
use Rattle.model.specs.Bounds.{lower, upper, ruin_lower, ruin_upper, count_lower, count_upper}
use Rattle.model.specs.Refusal.{plan_refusal, Accepted}
use Rattle.model.proofs.Facts.{facts, horizon_is}
use Rattle.model.proofs.Counts.{get_d_tabulate}
use Rattle.engine.specs.Answers.{answer, ruin_answer}
use Rattle.engine.proofs.AnswerLaws.{number_is, bounds_are}
use Rattle.count_row.specs.Answers.{CountAnswer, count_rows, count_refused, count_answer}
use Rattle.questions.proofs.RefusalLaws.{asked, month_inside}

-- What is known of an ask that was not refused: its plan is accepted, and it answers the definition's bounds …
pub record Answered (a : Ask) (row : List ℕ) (room : ℕ) : Type 0 where
  pub accepted : Accepted a.head row
  pub low : (answer a row room).lower ≡ lower (plan_of a.head row) a.question
  pub high : (answer a row room).upper ≡ upper (plan_of a.head row) a.question

pub answered : (a : Ask) (row : List ℕ) (room : ℕ) → (answer a row room).refusal ≡ 0 → Answered a row room
unfolding answer
answered a row room e =
    record {
      accepted = (asked a.head row 10 _ _ room (omega arith) (sym (number_is _ _ _) ∙ e)).accepted;
      low = (bounds_are _ _ _ e).0;
      high = (bounds_are _ _ _ e).1;
    }

-- … and the same of ruin in a month, which is one of the plan's.
pub record RuinAnswered (h : Head) (t : ℕ) (row : List ℕ) (room : ℕ) : Type 0 where
  pub accepted : Accepted h row
  pub some : 0 < t
  pub inside : t ≤ horizon (plan_of h row)
  pub low : (ruin_answer h t row room).lower ≡ ruin_lower (plan_of h row) t
  pub high : (ruin_answer h t row room).upper ≡ ruin_upper (plan_of h row) t

pub ruin_answered : (h : Head) (t : ℕ) (row : List ℕ) (room : ℕ) → (ruin_answer h t row room).refusal ≡ 0 → RuinAnswered h t row room
unfolding ruin_answer
ruin_answered h t row room e =
    let known = asked h row 10 _ _ room (omega arith) (sym (number_is _ _ _) ∙ e) in
    let month = month_inside h t known.inside in
    record {
      accepted = known.accepted;
      some = month.0;
      inside = omega (arith, month.1, horizon_is h row (facts h row known.accepted).row_is);
      low = (bounds_are _ _ _ e).0;
      high = (bounds_are _ _ _ e).1;
    }

-- The count row likewise, place by place.
pub record CountAnswered (h : Head) (row : List ℕ) : Type 0 where
  pub accepted : Accepted h row
  pub low : (k : ℕ) → k < places → get_or (count_answer h row).row.lower k 0 ≡ count_lower (plan_of h row) k
  pub high : (k : ℕ) → k < places → get_or (count_answer h row).row.upper k 0 ≡ count_upper (plan_of h row) k

pub count_accepted : (h : Head) (row : List ℕ) → Accepted h row → CountAnswered h row
unfolding count_answer count_rows
count_accepted h row accepted =
    record {
      accepted = accepted;
      low = λ k l. rw accepted (get_d_tabulate places (count_row Down (plan_of h row).chances) k l);
      high = λ k l. rw accepted (get_d_tabulate places (count_row Up (plan_of h row).chances) k l);
    }

pub count_of_refused : (h : Head) (row : List ℕ) (n : ℕ) → plan_refusal h row ≡ suc n → count_answer h row ≡ count_refused (suc n)
unfolding count_answer
count_of_refused h row n refused = rw (refused, ne_eqb (suc n) 0 (λ z. omega (arith, z)))

pub count_answered : (h : Head) (row : List ℕ) → (count_answer h row).refusal ≡ 0 → CountAnswered h row
unfolding count_refused
count_answered h row e = go (plan_refusal h row) refl
  where
    go : (n : ℕ) → plan_refusal h row ≡ n → CountAnswered h row
    go zero accepted = count_accepted h row accepted
    go (suc n) refused = absurd (omega (arith, sym (ap (λ (a : CountAnswer). a.refusal) (count_of_refused h row n refused)) ∙ e))
