-- All openings beside the other calls: no pair lies below an earlier one, and the least opening that is good enough is answered with its pair.
use mathlib.Core.Path.{◌≡◌, refl, sym, ap, ◌∙◌}
use mathlib.Core.List.{List}
use Prim.Native.Nat.{ℕ, ◌+◌, ◌*◌, ◌<◌, ◌≤◌}
use native.Mathlib.Omega.{arith}
use lib.ListN.{length, get_or}
use Rattle.model.specs.declared.Head.{Head}
use Rattle.model.specs.declared.Rounding.TheVariants.{Down, Up}
use Rattle.model.specs.Plan.{plan_of, opened}
use Rattle.model.proofs.TwoPlans.{survival_rises}
use Rattle.engine.specs.Answers.{Answer, bounds_answer}
use Rattle.survival.specs.Openings.{openings_refusal, bounds_after}
use Rattle.survival.proofs.Theorems.{pair_is, pair_asked}
use Rattle.opening_search.specs.Answers.{LeastAnswer, least_answer, Least}
use Rattle.opening_search.proofs.Theorems.{answer_is_least}
use Rattle.calls.proofs.LargerOpenings.{opened_grows}

-- the lent row after a call that was not refused
module _ (h : Head) (row ws bounds : List ℕ) (none : openings_refusal h row (length ws) (length bounds) ≡ 0) where
  abbrev left : List ℕ
  left = bounds_after h row (length ws) bounds

  -- "neither survival bound falls when the opening grows"
  pub pairs_rise : (v w : ℕ) → v ≤ w → w ≤ h.opening → (get_or left (2 * v) 0 ≤ get_or left (2 * w) 0) × (get_or left (2 * v + 1) 0 ≤ get_or left (2 * w + 1) 0)
  pairs_rise v w l m =
      let one = pair_is h row ws bounds left refl none v (omega arith) in
      let other = pair_is h row ws bounds left refl none w m in
      let grows = survival_rises (plan_of (opened h v) row) (plan_of (opened h w) row) (opened_grows h row v w l) in
      (rw (one.0, other.0) (grows Down), rw (one.1, other.1) (grows Up))

  -- of a call of the least opening on the same plan, in a workspace of the same length: its pair, and that every earlier one falls short
  module _ (target : ℕ) (found : (least_answer h row target (length ws)).refusal ≡ 0) where
    abbrev r : LeastAnswer
    r = least_answer h row target (length ws)

    is_least : Least h row target (length ws) r
    is_least = answer_is_least h row target (length ws) found

    pub least_among_pairs : (get_or left (2 * r.opening) 0 ≡ r.lower) × (get_or left (2 * r.opening + 1) 0 ≡ r.upper)
    unfolding bounds_answer
    least_among_pairs =
        let same = sym (pair_asked h row ws bounds left refl none r.opening is_least.allowed) ∙ is_least.asked in
        (ap (λ (a : Answer). a.lower) same, ap (λ (a : Answer). a.upper) same)

    pub earlier_pairs_miss : (v : ℕ) → v < r.opening → get_or left (2 * v) 0 < target
    unfolding bounds_answer
    earlier_pairs_miss v l =
        let asked = pair_asked h row ws bounds left refl none v (omega (arith, is_least.allowed)) in
        rw (← ap (λ (a : Answer). a.lower) asked) (is_least.smallest v l).below
