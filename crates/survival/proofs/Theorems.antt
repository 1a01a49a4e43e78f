-- What asking with each opening answers, and what the call says of it, of every plan, workspace and lent row: the clauses of its contract, from the definition.
use Prim.Native.Nat.{ℕ, ◌+◌, ◌*◌, ◌-◌, ◌≤◌, ◌<◌}
use mathlib.Core.Path.{◌≡◌, refl, sym, ◌∙◌, ap}
use mathlib.Core.Bool.{cond}
use mathlib.Core.List.{List, [], ◌∷◌, ◌++◌}
use native.Mathlib.Nat.{mul-one}
use native.Mathlib.Omega.{arith}
use lib.Dec.{ltb, eqb}
use lib.ListN.{length, get_or, take, drop, get_or-append}
use borrow.Author.Tests.{lt-ltb, le-ltb, ltb-false, ne_eqb}
use Rattle.model.specs.declared.Head.{Head}
use Rattle.model.specs.declared.Rounding.TheVariants.{Down, Up}
use Rattle.model.specs.declared.Question.TheVariants.{Survive}
use Rattle.model.specs.Plan.{plan_of, opened}
use Rattle.model.specs.Levels.{row_levels}
use Rattle.model.specs.Bounds.{lower, upper, EnclosesQuestion}
use Rattle.model.specs.Limits.{survival_room, bounds_room}
use Rattle.model.specs.Refusal.{first, plan_checks, plan_refusal, room_check, HeadAccepted, Accepted, outside, rows_needed, workspace_needed, survival_workspace}
use Rattle.model.proofs.LevelLaws.{level_from}
use Rattle.model.proofs.Facts.{head_facts, plan_numbered, plan_first, none_fits, none_fits_append, opened_accepted}
use Rattle.model.proofs.Theorems.{enclosure}
use Rattle.model.proofs.MemoryLaws.{filled, kept}
use Rattle.engine.specs.Answers.{bounds_answer, answer}
use Rattle.engine.proofs.AnswerLaws.{severity_lent}
use Rattle.questions.proofs.RefusalLaws.{Asked, not_refused}
use Rattle.survival.specs.Openings.{opening_ask, interleaved, survival_bounds, bounds_needed, openings_refusal, bounds_after, openings_workspace_after}
use Rattle.questions.specs.Survival.{survival_row}
use Rattle.survival.proofs.PairLaws.{pairs_length, first_of, second_of, pairs_agree}
use Rattle.questions.proofs.SurvivalLaws.{bound_at}

-- Asking with an opening of 0 to the plan's, in the workspace of survive, is not refused and answers that opening's bounds.
module _ (h : Head) (row : List ℕ) (room : ℕ) (accepted : Accepted h row) (enough : survival_workspace h ≤ room) where
  smaller : (v : ℕ) → v ≤ h.opening → Asked (opened h v) row (outside Survive) (workspace_needed (opening_ask h v)) room
  unfolding outside workspace_needed rows_needed
  smaller v l =
      record {
        accepted = opened_accepted h row accepted v l;
        inside = refl;
        enough = omega (arith, enough, level_from h.income v h.opening h.months l);
      }

  pub asked_with :
      (v : ℕ) → v ≤ h.opening →
      answer (opening_ask h v) row room ≡ bounds_answer 0 (lower (plan_of (opened h v) row) Survive) (upper (plan_of (opened h v) row) Survive)
  unfolding answer
  asked_with v l = rw (not_refused 10 (omega arith) (smaller v l))

-- the workspace of survive, whatever call it serves
pub needed_is : (h : Head) (levels : ℕ) → levels ≡ row_levels h.income h.opening h.months → 2 * levels ≡ survival_workspace h
unfolding workspace_needed rows_needed
needed_is h levels e = rw e (sym (mul-one (2 * row_levels h.income h.opening h.months)))

-- the checks one after the other, and what is known where none fits
module _ (h : Head) (row : List ℕ) (room places : ℕ) where
  pub number_is :
      openings_refusal h row room places
      ≡ cond (eqb (plan_refusal h row) 0) (cond (ltb room (survival_workspace h)) 11 (cond (ltb places (bounds_needed h)) 11 0)) (plan_refusal h row)
  unfolding openings_refusal first
  number_is = plan_first h row (room_check (survival_workspace h) room ∷ room_check (bounds_needed h) places ∷ [])

  pub plan_refused : (n : ℕ) → n ≡ plan_refusal h row → (n ≡ 0 → ⊥) → n ≡ openings_refusal h row room places
  plan_refused n e ne = rw (number_is, ← e, ne_eqb n 0 ne)

  pub workspace_short : Accepted h row → room < survival_workspace h → 11 ≡ openings_refusal h row room places
  workspace_short accepted l = rw (number_is, accepted, lt-ltb room (survival_workspace h) l)

  pub bounds_short : Accepted h row → survival_workspace h ≤ room → places < bounds_needed h → 11 ≡ openings_refusal h row room places
  bounds_short accepted enough l = rw (number_is, accepted, le-ltb room (survival_workspace h) enough, lt-ltb places (bounds_needed h) l)

  pub record Fillable : Type 0 where
    pub accepted : Accepted h row
    pub enough : survival_workspace h ≤ room
    pub wide : bounds_needed h ≤ places

  pub fillable : openings_refusal h row room places ≡ 0 → Fillable
  unfolding openings_refusal plan_refusal
  fillable e =
      let parts = none_fits_append (plan_checks h row) (room_check (survival_workspace h) room ∷ room_check (bounds_needed h) places ∷ []) (plan_numbered h row) e in
      let workspace = none_fits 10 (ltb room (survival_workspace h)) (room_check (bounds_needed h) places ∷ []) parts.1 in
      record {
        accepted = parts.0;
        enough = ltb-false room (survival_workspace h) workspace.0;
        wide = ltb-false places (bounds_needed h) (none_fits 10 (ltb places (bounds_needed h)) [] workspace.1).0;
      }

  pub unrefused : Fillable → openings_refusal h row room places ≡ 0
  unrefused k = number_is ∙ rw (k.accepted, le-ltb room (survival_workspace h) k.enough, le-ltb places (bounds_needed h) k.wide)

-- the rooms suffice for every accepted plan
pub workspace_suffices : (h : Head) → HeadAccepted h → survival_workspace h ≤ survival_room
unfolding workspace_needed rows_needed
workspace_suffices h accepted = omega (arith, (head_facts h accepted).span_fits)

pub bounds_suffice : (h : Head) → HeadAccepted h → bounds_needed h ≤ bounds_room
bounds_suffice h accepted = omega (arith, (head_facts h accepted).opening_fits)

-- the pairs of the rows of survival, over the parts of the row as they are lent, are the plan's bounds
pub bounds_are :
    (h : Head) (row : List ℕ) →
    let F = take (h.months + h.sizes - h.months) (drop h.months row) in
    interleaved (h.opening + 1) (survival_row Down h.income F (take h.months row)) (survival_row Up h.income F (take h.months row)) ≡ survival_bounds h row
unfolding survival_bounds plan_of
bounds_are h row =
    rw (severity_lent h row)
    (pairs_agree (h.opening + 1) _ _ _ _ (λ v l. sym (bound_at Down h row v)) (λ v l. sym (bound_at Up h row v)))

-- the two numbers of an opening, in the filled row
module _ (h : Head) (row rest : List ℕ) (v : ℕ) (l : v ≤ h.opening) where
  count : length (survival_bounds h row) ≡ 2 * (h.opening + 1)
  unfolding survival_bounds
  count = pairs_length (h.opening + 1) _ _

  lower_at : get_or (survival_bounds h row ++ rest) (2 * v) 0 ≡ lower (plan_of (opened h v) row) Survive
  unfolding survival_bounds
  lower_at = get_or-append (survival_bounds h row) rest 0 (2 * v) (omega (arith, count)) ∙ first_of (h.opening + 1) _ _ v (omega arith)

  upper_at : get_or (survival_bounds h row ++ rest) (2 * v + 1) 0 ≡ upper (plan_of (opened h v) row) Survive
  unfolding survival_bounds
  upper_at = get_or-append (survival_bounds h row) rest 0 (2 * v + 1) (omega (arith, count)) ∙ second_of (h.opening + 1) _ _ v (omega arith)

-- The clauses of the call, of a number, a lent row and a workspace that are the definitions'.
module _ (h : Head) (row ws bounds bounds' : List ℕ) (is : bounds' ≡ bounds_after h row (length ws) bounds) (none : openings_refusal h row (length ws) (length bounds) ≡ 0)
    (v : ℕ) (l : v ≤ h.opening) where
  given : Fillable h row (length ws) (length bounds)
  given = fillable h row (length ws) (length bounds) none

  full : bounds' ≡ survival_bounds h row ++ drop (bounds_needed h) bounds
  full = is ∙ filled (openings_refusal h row (length ws) (length bounds)) (bounds_needed h) (survival_bounds h row) bounds none

  -- the numbers of an opening's pair
  pub pair_is :
      (get_or bounds' (2 * v) 0 ≡ lower (plan_of (opened h v) row) Survive) × (get_or bounds' (2 * v + 1) 0 ≡ upper (plan_of (opened h v) row) Survive)
  pair_is =
      let rest = drop (bounds_needed h) bounds in
      (ap (λ (b : List ℕ). get_or b (2 * v) 0) full ∙ lower_at h row rest v l, ap (λ (b : List ℕ). get_or b (2 * v + 1) 0) full ∙ upper_at h row rest v l)

  -- "equal to asking one by one"
  pub pair_asked : answer (opening_ask h v) row (length ws) ≡ bounds_answer 0 (get_or bounds' (2 * v) 0) (get_or bounds' (2 * v + 1) 0)
  pair_asked =
      rw (pair_is.0, pair_is.1)
      (asked_with h row (length ws) given.accepted given.enough v l)

  -- demand 3 of each pair
  pub pair_encloses : let p = plan_of (opened h v) row in EnclosesQuestion p Survive (get_or bounds' (2 * v) 0) (get_or bounds' (2 * v + 1) 0)
  pair_encloses =
      rw (pair_is.0, pair_is.1)
      (enclosure (opened h v) row (opened_accepted h row given.accepted v l) Survive)

pub clauses :
    (h : Head) (row ws ws' bounds bounds' : List ℕ) (r : ℕ) → r ≡ openings_refusal h row (length ws) (length bounds) → bounds' ≡ bounds_after h row (length ws) bounds →
    ws' ≡ openings_workspace_after h row (length bounds) ws →
    (r ≡ openings_refusal h row (length ws) (length bounds))
    × ((bounds' ≡ bounds_after h row (length ws) bounds)
    × ((ws' ≡ openings_workspace_after h row (length bounds) ws)
    × ((r ≡ 0 → (v : ℕ) → v ≤ h.opening →
    answer (opening_ask h v) row (length ws) ≡ bounds_answer 0 (get_or bounds' (2 * v) 0) (get_or bounds' (2 * v + 1) 0))
    × (r ≡ 0 → (v : ℕ) → v ≤ h.opening →
    EnclosesQuestion (plan_of (opened h v) row) Survive (get_or bounds' (2 * v) 0) (get_or bounds' (2 * v + 1) 0)))))
clauses h row ws ws' bounds bounds' r e is cleared = (
  e,
  (
    is,
    (cleared, (λ z. pair_asked h row ws bounds bounds' is (sym e ∙ z), λ z. pair_encloses h row ws bounds bounds' is (sym e ∙ z))),
  ),
)

-- a refusal leaves the lent row
pub unfilled : (h : Head) (row bounds : List ℕ) (room n : ℕ) → n ≡ openings_refusal h row room (length bounds) → (n ≡ 0 → ⊥) → bounds ≡ bounds_after h row room bounds
unfilled h row bounds room n e ne =
    sym (kept (openings_refusal h row room (length bounds)) (bounds_needed h) (survival_bounds h row) bounds (λ z. ne (e ∙ z)))

pub filled_is :
    (h : Head) (row bounds front : List ℕ) (room m : ℕ) → openings_refusal h row room (length bounds) ≡ 0 → m ≡ bounds_needed h → front ≡ survival_bounds h row →
    front ++ drop m bounds ≡ bounds_after h row room bounds
filled_is h row bounds front room m none em ef =
    rw (em, ef) (sym (filled (openings_refusal h row room (length bounds)) (bounds_needed h) (survival_bounds h row) bounds none))
