-- Laws of the numbers that several calls answer, of what their contracts say that they answer.
use mathlib.Core.Path.{◌≡◌, refl, sym, ap, ◌∙◌}
use mathlib.Core.List.{List}
use Prim.Native.Nat.{ℕ, zero, suc, ◌+◌, ◌≤◌, ◌<◌}
use native.Mathlib.Omega.{arith}
use borrow.Author.Tests.{ne_eqb}
use lib.ListN.{get_or, get_or-replicate}
use Rattle.model.specs.declared.Head.{Head}
use Rattle.model.specs.declared.Question.TheVariants.{Survive, High}
use Rattle.model.specs.declared.Rounding.TheVariants.{Down, Up}
use Rattle.model.specs.Limits.{places}
use Rattle.model.specs.Scale.{S}
use Rattle.model.specs.Sums.{sum}
use Rattle.model.specs.Plan.{plan_of, horizon}
use Rattle.model.specs.Bounds.{ruin_lower, ruin_upper}
use Rattle.model.specs.Refusal.{plan_refusal, ask_refusal}
use Rattle.model.proofs.SumLaws.{sum_ext}
use Rattle.model.proofs.Facts.{facts, horizon_is}
use Rattle.model.proofs.Opening.{high_exceeded}
use Rattle.model.proofs.Theorems.{whole_between, counts_above}
use Rattle.engine.specs.Answers.{Answer, refused, bounds_answer, answer, ruin_answer}
use Rattle.count_row.specs.Answers.{count_refused, count_answer}
use Rattle.calls.proofs.Answered.{Answered, answered, RuinAnswered, ruin_answered, count_accepted, count_of_refused}

-- bounds of 0 are answered with zeros, as a refusal is
zeros_are : (number low high : ℕ) → low ≡ 0 → high ≡ 0 → bounds_answer number low high ≡ refused number
unfolding bounds_answer refused
zeros_are zero low high el eh = rw (el, eh)
zeros_are (suc n) low high el eh = rw (ne_eqb (suc n) 0 (λ z. omega (arith, z)))

-- "The treasurer's deposit cap now binds on opening day": asked high of a level below the opening, the call answers with zeros, whether it refuses or not.
pub high_below_the_opening :
    (h : Head) (row : List ℕ) (room L : ℕ) → L < h.opening →
    answer (record { head = h; question = High L }) row room ≡ refused (ask_refusal (record { head = h; question = High L }) row room)
unfolding answer plan_of
high_below_the_opening h row room L l =
    let none = (high_exceeded (plan_of h row) L l).1 in
    zeros_are (ask_refusal (record { head = h; question = High L }) row room) _ _ (none Down) (none Up)

-- "above n they are 0": the places of the count row that the call answers, whether it refuses or not
pub counts_above_the_months :
    (h : Head) (row : List ℕ) (k : ℕ) → h.months < k → k < places →
    (get_or (count_answer h row).row.lower k 0 ≡ 0) × (get_or (count_answer h row).row.upper k 0 ≡ 0)
unfolding count_refused
counts_above_the_months h row k above inside = go (plan_refusal h row) refl
  where
    go : (n : ℕ) → plan_refusal h row ≡ n → (get_or (count_answer h row).row.lower k 0 ≡ 0) × (get_or (count_answer h row).row.upper k 0 ≡ 0)
    go zero accepted =
        let known = count_accepted h row accepted in
        let none = counts_above h row accepted k (omega (arith, horizon_is h row (facts h row accepted).row_is)) in
        (known.low k inside ∙ none.0, known.high k inside ∙ none.1)
    go (suc n) refused = rw (count_of_refused h row n refused) (get_or-replicate places k 0 0 inside, get_or-replicate places k 0 0 inside)

-- "The exact chances of all months and of survival make up the whole, so S lies between the two totals once the survival bounds are added": of one plan
-- survival is asked, and ruin in each month, each call with a workspace of its own length; where none is refused, the numbers answered keep to it.
module _
    (h : Head)
    (row : List ℕ)
    (room : ℕ)
    (month_room : ℕ → ℕ)
    (survived : (answer (record { head = h; question = Survive }) row room).refusal ≡ 0)
    (ruined : (t : ℕ) → 0 < t → t ≤ h.months → (ruin_answer h t row (month_room t)).refusal ≡ 0)
  where
    abbrev survival : Answer
    survival = answer (record { head = h; question = Survive }) row room

    abbrev ruin : ℕ → Answer
    ruin t = ruin_answer h t row (month_room t)

    abbrev known : Answered (record { head = h; question = Survive }) row room
    known = answered (record { head = h; question = Survive }) row room survived

    abbrev ruin_known : (t : ℕ) → 0 < t → t ≤ h.months → RuinAnswered h t row (month_room t)
    ruin_known t some l = ruin_answered h t row (month_room t) (ruined t some l)

    -- a sum over the plan's months
    all_months : (f g : ℕ → ℕ) → ((t : ℕ) → 0 < t → t ≤ h.months → f t ≡ g t) → sum h.months f ≡ sum (horizon (plan_of h row)) g
    all_months f g same =
        sum_ext h.months f g (λ i l. same (suc i) (omega arith) l)
        ∙ ap (λ (n : ℕ). sum n g) (sym (horizon_is h row (facts h row known.accepted).row_is))

    pub answers_make_up_the_whole :
        (sum h.months (λ t. (ruin t).lower) + survival.lower ≤ S) × (S ≤ sum h.months (λ t. (ruin t).upper) + survival.upper)
    answers_make_up_the_whole = (
      rw (all_months (λ t. (ruin t).lower) (ruin_lower (plan_of h row)) (λ t some l. (ruin_known t some l).low), known.low) (whole_between h row known.accepted).0,
      rw (all_months (λ t. (ruin t).upper) (ruin_upper (plan_of h row)) (λ t some l. (ruin_known t some l).high), known.high) (whole_between h row known.accepted).1,
    )
