-- Document 02, of openings: "neither survival bound falls when the opening grows". So every allowed opening above the least that is good enough is good
-- enough, too.
use mathlib.Core.Path.{◌≡◌, refl, ap}
use mathlib.Core.List.{List}
use Prim.Native.Nat.{ℕ, ◌≤◌}
use native.Mathlib.Nat.{le_trans}
use Rattle.model.specs.declared.Head.{Head}
use Rattle.model.specs.Plan.{plan_of, opened}
use Rattle.model.specs.Sensitivity.{OnlyOpeningGrows}
use Rattle.engine.specs.Answers.{Answer, bounds_answer, answer}
use Rattle.survival.specs.Openings.{opening_ask}
use Rattle.opening_search.specs.Answers.{LeastAnswer, least_answer, Least}
use Rattle.opening_search.proofs.Theorems.{answer_is_least, allowed_answered}
use Rattle.calls.proofs.TwoCalls.{survival_answers_rise}

-- two openings of one plan
pub opened_grows : (h : Head) (row : List ℕ) (v w : ℕ) → v ≤ w → OnlyOpeningGrows (plan_of (opened h v) row) (plan_of (opened h w) row)
unfolding plan_of
opened_grows h row v w l = record { opening = l; income = refl; chances = refl; severity = refl; tail = refl }

module _ (h : Head) (row : List ℕ) (target room : ℕ) (found : (least_answer h row target room).refusal ≡ 0) where
  abbrev r : LeastAnswer
  r = least_answer h row target room

  abbrev is_least : Least h row target room r
  is_least = answer_is_least h row target room found

  asked_lower : (answer (opening_ask h r.opening) row room).lower ≡ r.lower
  unfolding bounds_answer
  asked_lower = ap (λ (a : Answer). a.lower) is_least.asked

  pub larger_would_do : (v : ℕ) → r.opening ≤ v → v ≤ h.opening → target ≤ (answer (opening_ask h v) row room).lower
  larger_would_do v l m =
      le_trans is_least.enough
      (rw asked_lower at
      (survival_answers_rise (opened h r.opening) row (opened h v) row room room
      (allowed_answered h row target room found r.opening is_least.allowed) (allowed_answered h row target room found v m) (opened_grows h row r.opening v l)).0)
