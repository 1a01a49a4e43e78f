-- What the call's answer says, of every plan, target and workspace: the clauses of its contract, from the definition.
use Prim.Native.Nat.{ℕ, zero, suc, ◌+◌, ◌-◌, ◌≤◌, ◌<◌}
use mathlib.Core.Path.{◌≡◌, refl, sym, ◌∙◌, ap, fun_ext}
use mathlib.Core.Bool.{Bool, true, false, cond}
use mathlib.Core.List.{List, [], ◌∷◌}
use native.Mathlib.Omega.{arith}
use Rattle.std.specs.Prelude.{Result, Ok, Err, IfOk}
use lib.Dec.{leb, ltb, eqb}
use lib.ListN.{length, take, drop}
use borrow.Author.Tests.{lt-leb, leb-true, leb-false, ltb-true, ltb-false, lt-ltb, ne_eqb, eqb-false}
use Rattle.model.specs.declared.Head.{Head}
use Rattle.model.specs.declared.refusal.Refusal.{Refusal}
use Rattle.model.specs.declared.refusal.Refusal.TheVariants.{Unreached}
use Rattle.model.specs.declared.Rounding.{Rounding}
use Rattle.model.specs.declared.Rounding.TheVariants.{Down, Up}
use Rattle.model.specs.declared.Question.TheVariants.{Survive}
use Rattle.model.specs.Limits.{survival_room}
use Rattle.model.specs.Scale.{S}
use Rattle.model.specs.Sums.{all}
use Rattle.model.specs.Plan.{plan_of, opened}
use Rattle.model.specs.Bounds.{lower, upper, EnclosesQuestion}
use Rattle.model.specs.Refusal.{refusal_number, first, head_checks, length_check, number_checks, plan_checks, asked_checks, bounds_checks, bounds_refusal, Accepted, outside, survival_workspace}
use Rattle.model.proofs.Facts.{neither, not_zero, numbered, none_fits, none_fits_append, first_append, first_lacks, last_given, accepted_head, opened_accepted}
use Rattle.model.proofs.RefusalNumbers.{not_accepted}
use Rattle.model.proofs.Theorems.{enclosure}
use Rattle.engine.specs.Answers.{Answer, bounds_answer, answer}
use Rattle.engine.proofs.AnswerLaws.{severity_lent}
use Rattle.questions.proofs.RefusalLaws.{Asked, asked, asked_inside, asked_decides, bounds_refusal_is, bounds_numbered}
use Rattle.opening_search.specs.declared.LeastOpening.{LeastOpening}
use Rattle.target_rows.specs.Least.{least}
use Rattle.opening_search.specs.Least.{reaches, least_opening}
use Rattle.opening_search.specs.Refusal.{target_outside, target_checks, target_refusal, none_reaches, least_refusal}
use Rattle.survival.specs.Openings.{opening_ask}
use Rattle.questions.specs.Survival.{survival_row}
use Rattle.questions.proofs.SurvivalLaws.{bound_at}
use Rattle.survival.proofs.Theorems.{asked_with, workspace_suffices}
use Rattle.opening_search.specs.Answers.{LeastAnswer, least_result, refused, found, least_answer, least_workspace_after, Misses, Least}
use Rattle.opening_search.specs.Search.{search_answer}
use Rattle.target_rows.proofs.LeastLaws.{IsLeast, is_least, least_none}

-- a target that is not outside
pub target_inside : (target : ℕ) → target_outside target ≡ false → (0 < target) × (target ≤ S)
unfolding target_outside
target_inside target e =
    let parts = neither (eqb target 0) (ltb S target) e in
    (not_zero (eqb-false target 0 parts.0), ltb-false S target parts.1)

-- 14 stands "in the place of 10": before 11, however short the workspace is
pub target_before_workspace :
    (h : Head) (row : List ℕ) (target room : ℕ) → Accepted h row → target_outside target ≡ true → target_refusal h row target room ≡ 14
unfolding target_checks bounds_refusal
target_before_workspace h row target room accepted outside =
    bounds_refusal_is h row 14 (target_outside target) (survival_workspace h) room (omega arith)
    ∙ rw (sym (asked_decides h row 14 (target_outside target) true accepted outside))

module _ (h : Head) (row : List ℕ) (target room : ℕ) where
  abbrev early : ℕ
  early = target_refusal h row target room

  abbrev late : Bool
  late = none_reaches h row target

  -- 15 comes after all other checks
  numbered_checks : numbered (target_checks h row target room) ≡ true
  unfolding target_checks
  numbered_checks = bounds_numbered h row 14 (target_outside target) (survival_workspace h) room (omega arith)

  number_is : least_refusal h row target room ≡ cond (eqb early 0) (cond late 15 0) early
  unfolding least_refusal first
  number_is = first_append (target_checks h row target room) ((15, late) ∷ []) numbered_checks

  -- and no other has its number
  not_15 : early ≡ 15 → ⊥
  unfolding all target_checks bounds_checks asked_checks plan_checks head_checks length_check number_checks
  not_15 = first_lacks 15 (omega arith) (target_checks h row target room) refl

  -- 11 is given for a short workspace alone, so never with room for survive on every plan
  pub never_11 : survival_room ≤ room → least_refusal h row target room ≡ 11 → ⊥
  unfolding all target_checks bounds_checks asked_checks plan_checks head_checks length_check number_checks
  never_11 wide e =
      let short = last_given 11 (omega arith) (asked_checks h row (14, target_outside target)) (ltb room (survival_workspace h)) refl refl (given_early early late (sym number_is ∙ e)) in
      let accepted = (asked_inside h row 14 (target_outside target) (omega arith) short.0).0 in
      omega (arith, ltb-true room (survival_workspace h) short.1, workspace_suffices h (accepted_head h row accepted))
    where
      given_early : (n : ℕ) (b : Bool) → cond (eqb n 0) (cond b 15 0) n ≡ 11 → n ≡ 11
      given_early zero true e = absurd (omega (arith, e))
      given_early zero false e = absurd (omega (arith, e))
      given_early (suc n) b e = rw (ne_eqb (suc n) 0 (λ z. omega (arith, z))) at e

  -- the number that the call answers is the refusal's
  refusal_is : (least_answer h row target room).refusal ≡ least_refusal h row target room
  unfolding least_answer found refused
  refusal_is = go (least_refusal h row target room)
    where
      go : (n : ℕ) → (cond (eqb n 0) (found h row (least_opening h row target)) (refused n)).refusal ≡ n
      go zero = refl
      go (suc n) = rw (ne_eqb (suc n) 0 (λ z. omega (arith, z)))

  -- the least opening and its bounds, from V_0
  abbrev row_value : Rounding → ℕ → ℕ
  row_value round = survival_row round h.income (plan_of h row).severity (plan_of h row).chances

  abbrev row_least : ℕ
  row_least = least (h.opening + 1) (λ s. leb target (row_value Down s))

  opening_is : least_opening h row target ≡ row_least
  unfolding least_opening reaches
  opening_is = ap (least (h.opening + 1)) (fun_ext (λ s. ap (λ (low : ℕ). leb target low) (bound_at Down h row s)))

  none_is : late ≡ ltb h.opening row_least
  unfolding none_reaches
  none_is = ap (λ (w : ℕ). ltb h.opening w) opening_is

  either_same :
      (b : Bool) (w : ℕ) →
      cond b (refused 15) (record { refusal = 0; opening = w; lower = row_value Down w; upper = row_value Up w })
      ≡ cond (eqb (cond b 15 0) 0) (found h row w) (refused (cond b 15 0))
  unfolding found
  either_same true w = refl
  either_same false w = rw (bound_at Down h row w, bound_at Up h row w)

  -- a refusal by an earlier check
  pub refused_is : (n : ℕ) (r : LeastAnswer) → r ≡ refused n → n ≡ early → (n ≡ 0 → ⊥) → r ≡ least_answer h row target room
  unfolding least_answer
  refused_is n r er e ne = er ∙ sym (rw (number_is, ← e, ne_eqb n 0 ne, ne_eqb n 0 ne))

  pub refused_result : (e : Refusal) → refusal_number e ≡ early → least_result (Err e) ≡ least_answer h row target room
  unfolding refused
  refused_result e is = refused_is (refusal_number e) _ refl is (not_accepted e _ refl)

  -- where no check before 15 fits, asking with any smaller opening is not refused
  module _ (unrefused : early ≡ 0) where
    pub known : Asked h row (target_outside target) (survival_workspace h) room
    unfolding bounds_refusal target_checks
    known = asked h row 14 (target_outside target) (survival_workspace h) room (omega arith) unrefused

    asked_at :
        (v : ℕ) → v ≤ h.opening →
        answer (opening_ask h v) row room ≡ bounds_answer 0 (lower (plan_of (opened h v) row) Survive) (upper (plan_of (opened h v) row) Survive)
    asked_at = asked_with h row room known.accepted known.enough

    misses : (v : ℕ) → v ≤ h.opening → reaches h row target v ≡ false → Misses h row target room v
    unfolding bounds_answer reaches
    misses v l e =
        record {
          answered = ap (λ (a : Answer). a.refusal) (asked_at v l);
          below = rw (asked_at v l) (leb-false target (lower (plan_of (opened h v) row) Survive) e);
        }

    miss_fails : (v : ℕ) → v ≤ h.opening → Misses h row target room v → reaches h row target v ≡ false
    unfolding bounds_answer reaches
    miss_fails v l m = lt-leb target (lower (plan_of (opened h v) row) Survive) (rw (asked_at v l) at m.below)

    -- what the search gives is what the call answers
    pub search_is : search_answer h.income (plan_of h row).severity h.opening (plan_of h row).chances target ≡ least_answer h row target room
    unfolding search_answer least_answer
    search_is = rw (number_is, unrefused, none_is, opening_is) (either_same (ltb h.opening row_least) row_least)

  -- An answer: no check fits, the opening is allowed, and it is the found one.
  record Answered : Type 0 where
    unrefused : early ≡ 0
    allowed : least_opening h row target ≤ h.opening
    is_found : least_answer h row target room ≡ found h row (least_opening h row target)

  answered : (least_answer h row target room).refusal ≡ 0 → Answered
  unfolding least_refusal least_answer none_reaches
  answered e =
      let none : least_refusal h row target room ≡ 0 = sym refusal_is ∙ e in
      let parts = none_fits_append (target_checks h row target room) ((15, late) ∷ []) numbered_checks none in
      record {
        unrefused = parts.0;
        allowed = ltb-false h.opening (least_opening h row target) (none_fits 14 late [] parts.1).0;
        is_found = rw none;
      }

  is_the_least : IsLeast (h.opening + 1) (reaches h row target) (least_opening h row target)
  unfolding least_opening
  is_the_least = is_least (h.opening + 1) (reaches h row target)

  found_is_least : early ≡ 0 → least_opening h row target ≤ h.opening → Least h row target room (found h row (least_opening h row target))
  unfolding found reaches
  found_is_least none l =
      record {
        allowed = l;
        asked = asked_at none (least_opening h row target) l;
        enough = leb-true target _ (is_the_least.passes (omega arith));
        smallest = λ v m. misses none v (omega arith) (is_the_least.smaller v m);
      }

  -- "The answer shows the opening and its bounds; no smaller one would do."
  pub answer_is_least : (least_answer h row target room).refusal ≡ 0 → Least h row target room (least_answer h row target room)
  answer_is_least e = let a = answered e in rw a.is_found (found_is_least a.unrefused a.allowed)

  -- and asking with any opening that is allowed is not refused
  pub allowed_answered : (least_answer h row target room).refusal ≡ 0 → (v : ℕ) → v ≤ h.opening → (answer (opening_ask h v) row room).refusal ≡ 0
  unfolding bounds_answer
  allowed_answered e v l = ap (λ (a : Answer). a.refusal) (asked_at (answered e).unrefused v l)

  -- "exactly if no opening from 0 to the largest reaches the target", where no other check fits: 15 says so …
  only_none : (n : ℕ) (b : Bool) → (n ≡ 15 → ⊥) → cond (eqb n 0) (cond b 15 0) n ≡ 15 → (n ≡ 0) × (b ≡ true)
  only_none zero true l e = (refl, refl)
  only_none zero false l e = absurd (omega (arith, e))
  only_none (suc n) b l e = absurd (l (rw (ne_eqb (suc n) 0 (λ z. omega (arith, z))) at e))

  pub none_reaches_if_15 : (least_answer h row target room).refusal ≡ 15 → (v : ℕ) → v ≤ h.opening → Misses h row target room v
  unfolding none_reaches
  none_reaches_if_15 e v l =
      let none = only_none early late not_15 (sym number_is ∙ sym refusal_is ∙ e) in
      misses none.0 v l (is_the_least.smaller v (omega (arith, ltb-true h.opening (least_opening h row target) none.1)))

  -- … and it is answered.
  pub fifteen_if_none : early ≡ 0 → ((v : ℕ) → v ≤ h.opening → Misses h row target room v) → (least_answer h row target room).refusal ≡ 15
  unfolding none_reaches least_opening
  fifteen_if_none none all_miss =
      let above : h.opening < least_opening h row target = omega (arith, least_none (h.opening + 1) (reaches h row target) (λ i l. fails i (omega arith))) in
      refusal_is ∙ number_is ∙ rw (none, lt-ltb h.opening (least_opening h row target) above)
    where
      fails : (v : ℕ) → v ≤ h.opening → reaches h row target v ≡ false
      fails v l = miss_fails none v l (all_miss v l)

  found_encloses :
      early ≡ 0 → least_opening h row target ≤ h.opening →
      let r = found h row (least_opening h row target) in
      let p = plan_of (opened h r.opening) row in
      EnclosesQuestion p Survive r.lower r.upper
  unfolding found
  found_encloses none l = enclosure (opened h (least_opening h row target)) row (opened_accepted h row (known none).accepted (least_opening h row target) l) Survive

  -- demand 3 of the two numbers answered
  pub answer_encloses :
      (least_answer h row target room).refusal ≡ 0 →
      let r = least_answer h row target room in
      let p = plan_of (opened h r.opening) row in
      EnclosesQuestion p Survive r.lower r.upper
  answer_encloses e = let a = answered e in rw a.is_found (found_encloses a.unrefused a.allowed)

-- the search over the parts of the row as they are lent
pub lent_is :
    (h : Head) (row : List ℕ) (target : ℕ) (r : LeastAnswer) →
    r ≡ search_answer h.income (take (h.months + h.sizes - h.months) (drop h.months row)) h.opening (take h.months row) target →
    r ≡ search_answer h.income (plan_of h row).severity h.opening (plan_of h row).chances target
unfolding plan_of
lent_is h row target r e = e ∙ ap (λ (F : List ℕ). search_answer h.income F h.opening (take h.months row) target) (severity_lent h row)

-- The clauses of the call, of an answer and a workspace that are the definitions'.
pub clauses :
    (h : Head) (row : List ℕ) (target : ℕ) (ws ws' : List ℕ) (r : LeastAnswer) → r ≡ least_answer h row target (length ws) →
    ws' ≡ least_workspace_after h row target ws →
    (r ≡ least_answer h row target (length ws))
    × ((ws' ≡ least_workspace_after h row target ws)
    × ((r.refusal ≡ 0 → Least h row target (length ws) r)
    × ((r.refusal ≡ 15 → (v : ℕ) → v ≤ h.opening → Misses h row target (length ws) v)
    × (r.refusal ≡ 0 →
    EnclosesQuestion (plan_of (opened h r.opening) row) Survive r.lower r.upper))))
clauses h row target ws ws' r e cleared = (
  e,
  (
    cleared,
    (
      rw e (answer_is_least h row target (length ws)),
      (rw e (none_reaches_if_15 h row target (length ws)), rw e (answer_encloses h row target (length ws))),
    ),
  ),
)

-- What holds of the answer of any result that is not a refusal …
when_ok : (P : LeastAnswer → Type 0) (r : Result LeastOpening Refusal) → ((least_result r).refusal ≡ 0 → P (least_result r)) → IfOk r (λ l. P (least_result (Ok l)))
when_ok P (Ok l) holds = holds refl
when_ok P (Err e) holds = _

-- … so that the clauses of a result are those of its answer.
pub result_clauses :
    (h : Head) (row : List ℕ) (target : ℕ) (ws ws' : List ℕ) (r : Result LeastOpening Refusal) → least_result r ≡ least_answer h row target (length ws) →
    ws' ≡ least_workspace_after h row target ws →
    IfOk r (λ l. Least h row target (length ws) (least_result (Ok l)))
    × ((r ≡ Err Unreached → (v : ℕ) → v ≤ h.opening → Misses h row target (length ws) v)
    × IfOk r (λ l. EnclosesQuestion (plan_of (opened h l.opening) row) Survive l.bounds.lower l.bounds.upper))
result_clauses h row target ws ws' r e cleared =
    let both = clauses h row target ws ws' (least_result r) e cleared in
    let rest = both.1.1 in (
      when_ok (λ a. Least h row target (length ws) a) r rest.0,
      (
        λ z. rest.1.0 (ap (λ x. (least_result x).refusal) z),
        when_ok (λ a. EnclosesQuestion (plan_of (opened h a.opening) row) Survive a.lower a.upper) r rest.1.1,
      ),
    )
