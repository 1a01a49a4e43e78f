-- Document 02, of the numbers that two calls answer: how far a chance can move the result, and what a larger opening does. Each call has a workspace of its own
-- length, and neither is refused; nothing else is asked but that the plans differ in nothing else.
use mathlib.Core.Path.{◌≡◌}
use mathlib.Core.List.{List}
use Prim.Native.Nat.{ℕ, ◌≤◌, ◌<◌}
use lib.ListN.{get_or}
use Rattle.model.specs.declared.Head.{Head}
use Rattle.model.specs.declared.Ask.{Ask}
use Rattle.model.specs.declared.Question.{Question}
use Rattle.model.specs.declared.Question.TheVariants.{Survive}
use Rattle.model.specs.declared.Rounding.TheVariants.{Down, Up}
use Rattle.model.specs.Limits.{places}
use Rattle.model.specs.Plan.{Plan, plan_of}
use Rattle.model.specs.Exact.{exact, exact_ruin, exact_count}
use Rattle.model.specs.Bounds.{months_to}
use Rattle.model.specs.Sensitivity.{OnlyChancesDiffer, OnlyOpeningGrows, distance, chances_apart, Moves}
use Rattle.model.proofs.TwoPlans.{question_moves, bounds_move, ruin_moves, ruin_bounds_move, count_moves, count_bounds_move, survival_rises}
use Rattle.count_row.specs.declared.CountRow.{CountRow}
use Rattle.engine.specs.Answers.{Answer, answer, ruin_answer}
use Rattle.count_row.specs.Answers.{count_answer}
use Rattle.calls.proofs.Answered.{Answered, answered, RuinAnswered, ruin_answered, CountAnswered, count_answered}

-- what holds of the definitions' numbers holds of the answered ones
as_answered : (R : ℕ → ℕ → Type 0) {a a' b b' : ℕ} → a ≡ b → a' ≡ b' → R b b' → R a a'
as_answered R e e' h = rw (e, e') h

-- that two lower and two upper bounds differ by at most c
abbrev pub BoundsMove : ℕ → ℕ → ℕ → ℕ → ℕ → Type 0
BoundsMove c low low' high high' = (distance low low' ≤ c) × (distance high high' ≤ c)

bounds_as_answered :
    (c : ℕ) {a a' b b' low low' high high' : ℕ} → a ≡ low → a' ≡ low' → b ≡ high → b' ≡ high' →
    distance low low' ≤ c → distance high high' ≤ c → BoundsMove c a a' b b'
bounds_as_answered c el el' eh eh' lows highs = (
  as_answered (λ x y. distance x y ≤ c) el el' lows,
  as_answered (λ x y. distance x y ≤ c) eh eh' highs,
)

abbrev pub question_ask : Head → Question → Ask
question_ask h q = record { head = h; question = q }

module _ (h : Head) (row : List ℕ) (h' : Head) (row' : List ℕ) where
  abbrev p : Plan
  p = plan_of h row

  abbrev p' : Plan
  p' = plan_of h' row'

  -- the same question asked of both plans
  module _
      (q : Question)
      (room room' : ℕ)
      (unrefused : (answer (question_ask h q) row room).refusal ≡ 0)
      (unrefused' : (answer (question_ask h' q) row' room').refusal ≡ 0)
    where
      abbrev r : Answer
      r = answer (question_ask h q) row room

      abbrev r' : Answer
      r' = answer (question_ask h' q) row' room'

      abbrev known : Answered (question_ask h q) row room
      known = answered (question_ask h q) row room unrefused

      abbrev known' : Answered (question_ask h' q) row' room'
      known' = answered (question_ask h' q) row' room' unrefused'

      pub answers_move : OnlyChancesDiffer p p' → Moves p p.chances p'.chances (exact p q) (exact p' q) r.lower r'.lower
      answers_move only =
          as_answered (Moves p p.chances p'.chances (exact p q) (exact p' q)) known.low known'.low
          (question_moves h row known.accepted h' row' known'.accepted only q)

      pub answered_bounds_move : OnlyChancesDiffer p p' → BoundsMove (chances_apart p.chances p'.chances) r.lower r'.lower r.upper r'.upper
      answered_bounds_move only =
          let move = bounds_move h row known.accepted h' row' known'.accepted only in
          bounds_as_answered _ known.low known'.low known.high known'.high (move Down q) (move Up q)

  -- survival asked of both, where they differ only in the opening
  pub survival_answers_rise :
      (room room' : ℕ) → (answer (question_ask h Survive) row room).refusal ≡ 0 → (answer (question_ask h' Survive) row' room').refusal ≡ 0 → OnlyOpeningGrows p p' →
      ((answer (question_ask h Survive) row room).lower ≤ (answer (question_ask h' Survive) row' room').lower)
      × ((answer (question_ask h Survive) row room).upper ≤ (answer (question_ask h' Survive) row' room').upper)
  survival_answers_rise room room' unrefused unrefused' grows =
      let lasts = answered (question_ask h Survive) row room unrefused in
      let lasts' = answered (question_ask h' Survive) row' room' unrefused' in (
        as_answered (λ a b. a ≤ b) lasts.low lasts'.low (survival_rises p p' grows Down),
        as_answered (λ a b. a ≤ b) lasts.high lasts'.high (survival_rises p p' grows Up),
      )

  -- ruin in the same month asked of both
  module _
      (t room room' : ℕ)
      (unrefused : (ruin_answer h t row room).refusal ≡ 0)
      (unrefused' : (ruin_answer h' t row' room').refusal ≡ 0)
      (only : OnlyChancesDiffer p p')
    where
      abbrev ruin : Answer
      ruin = ruin_answer h t row room

      abbrev ruin' : Answer
      ruin' = ruin_answer h' t row' room'

      abbrev ruin_known : RuinAnswered h t row room
      ruin_known = ruin_answered h t row room unrefused

      abbrev ruin_known' : RuinAnswered h' t row' room'
      ruin_known' = ruin_answered h' t row' room' unrefused'

      pub ruin_answers_move : Moves p (months_to p t) (months_to p' t) (exact_ruin p t) (exact_ruin p' t) ruin.lower ruin'.lower
      ruin_answers_move =
          as_answered (Moves p (months_to p t) (months_to p' t) (exact_ruin p t) (exact_ruin p' t)) ruin_known.low ruin_known'.low
          (ruin_moves h row ruin_known.accepted h' row' ruin_known'.accepted only t ruin_known.some ruin_known.inside)

      pub answered_ruins_move : BoundsMove (chances_apart (months_to p t) (months_to p' t)) ruin.lower ruin'.lower ruin.upper ruin'.upper
      answered_ruins_move =
          let move = ruin_bounds_move h row ruin_known.accepted h' row' ruin_known'.accepted only t ruin_known.some ruin_known.inside in
          bounds_as_answered _ ruin_known.low ruin_known'.low ruin_known.high ruin_known'.high (move Down) (move Up)

  -- the count rows of both, place by place
  module _
      (unrefused : (count_answer h row).refusal ≡ 0)
      (unrefused' : (count_answer h' row').refusal ≡ 0)
      (only : OnlyChancesDiffer p p')
      (k : ℕ)
      (l : k < places)
    where
      abbrev counts : CountRow
      counts = (count_answer h row).row

      abbrev counts' : CountRow
      counts' = (count_answer h' row').row

      abbrev count_known : CountAnswered h row
      count_known = count_answered h row unrefused

      abbrev count_known' : CountAnswered h' row'
      count_known' = count_answered h' row' unrefused'

      pub count_answers_move :
          Moves p p.chances p'.chances (exact_count p k) (exact_count p' k) (get_or counts.lower k 0) (get_or counts'.lower k 0)
      count_answers_move =
          as_answered (Moves p p.chances p'.chances (exact_count p k) (exact_count p' k)) (count_known.low k l) (count_known'.low k l)
          (count_moves h row count_known.accepted h' row' count_known'.accepted only k)

      pub answered_counts_move :
          BoundsMove (chances_apart p.chances p'.chances) (get_or counts.lower k 0) (get_or counts'.lower k 0) (get_or counts.upper k 0) (get_or counts'.upper k 0)
      answered_counts_move =
          let move = count_bounds_move h row count_known.accepted h' row' count_known'.accepted only in
          bounds_as_answered _ (count_known.low k l) (count_known'.low k l) (count_known.high k l) (count_known'.high k l) (move Down k) (move Up k)
