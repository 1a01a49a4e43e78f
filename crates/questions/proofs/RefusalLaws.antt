-- Laws of the refusal of a call that answers two bounds: its checks one after the other, and what is known where none fits.
use mathlib.Core.Path.{◌≡◌, refl, sym, ◌∙◌}
use mathlib.Core.Bool.{Bool, true, false, cond}
use mathlib.Core.List.{List, [], ◌∷◌}
use Prim.Native.Nat.{ℕ, zero, suc, ◌≤◌, ◌<◌}
use native.Mathlib.Nat.{lt_of_not-le}
use native.Mathlib.Omega.{arith}
use lib.Dec.{ltb, eqb}
use borrow.Author.Tests.{lt-ltb, le-ltb, ne_eqb, ltb-false, eqb-false}
use Rattle.model.specs.declared.Head.{Head}
use Rattle.model.specs.Sums.{all}
use Rattle.model.specs.Refusal.{first, head_checks, length_check, number_checks, plan_checks, plan_refusal, Accepted, asked_checks, month_outside, room_check, bounds_checks, bounds_refusal}
use Rattle.model.proofs.Facts.{neither, not_zero, numbered, first_append, none_fits, none_fits_append, plan_numbered, plan_first}

-- the checks after those of the plan, and after that of what is asked, which has a number n above 0
pub asked_is :
    (h : Head) (row : List ℕ) (n : ℕ) (o : Bool) → first (asked_checks h row (n, o)) ≡ cond (eqb (plan_refusal h row) 0) (cond o n 0) (plan_refusal h row)
unfolding asked_checks first
asked_is h row n o = plan_first h row ((n, o) ∷ [])

-- what is asked decides where the plan is accepted
pub asked_decides :
    (h : Head) (row : List ℕ) (n : ℕ) (o b : Bool) → Accepted h row → o ≡ b → cond b n 0 ≡ first (asked_checks h row (n, o))
asked_decides h row n o b accepted e = sym (asked_is h row n o ∙ rw (accepted, e))

asked_numbered : (h : Head) (row : List ℕ) (n : ℕ) (o : Bool) → 0 < n → numbered (asked_checks h row (n, o)) ≡ true
unfolding all asked_checks plan_checks head_checks length_check number_checks
asked_numbered h row n o above = rw (lt-ltb 0 n above)

pub bounds_numbered :
    (h : Head) (row : List ℕ) (n : ℕ) (o : Bool) (needed room : ℕ) → 0 < n → numbered (bounds_checks h row (n, o) needed room) ≡ true
unfolding all bounds_checks asked_checks plan_checks head_checks length_check number_checks
bounds_numbered h row n o needed room above = rw (lt-ltb 0 n above)

pub bounds_refusal_is :
    (h : Head) (row : List ℕ) (n : ℕ) (o : Bool) (needed room : ℕ) → 0 < n →
    bounds_refusal h row (n, o) needed room
    ≡ cond (eqb (first (asked_checks h row (n, o))) 0) (first (room_check needed room ∷ [])) (first (asked_checks h row (n, o)))
unfolding bounds_refusal bounds_checks
bounds_refusal_is h row n o needed room above = first_append (asked_checks h row (n, o)) (room_check needed room ∷ []) (asked_numbered h row n o above)

pub room_is : (needed room : ℕ) → first (room_check needed room ∷ []) ≡ cond (ltb room needed) 11 0
unfolding first
room_is needed room = refl

-- so a call's number is the plan's, or that of what is asked where the plan has none, or the workspace's where neither has one
module _ (h : Head) (row : List ℕ) (n : ℕ) (o : Bool) (needed room : ℕ) (above : 0 < n) where
  bounds_is :
      bounds_refusal h row (n, o) needed room
      ≡ cond (eqb (first (asked_checks h row (n, o))) 0) (cond (ltb room needed) 11 0) (first (asked_checks h row (n, o)))
  bounds_is = bounds_refusal_is h row n o needed room above ∙ rw (room_is needed room)

  pub by_plan : (r : ℕ) → r ≡ plan_refusal h row → 0 < r → r ≡ bounds_refusal h row (n, o) needed room
  by_plan r e refused = rw (bounds_is, asked_is h row n o, ← e, ne_eqb r 0 (λ z. omega (arith, z, refused)), ne_eqb r 0 (λ z. omega (arith, z, refused)))

  module _ (accepted : Accepted h row) where
    pub by_asked : (r : ℕ) → r ≡ cond o n 0 → 0 < r → r ≡ bounds_refusal h row (n, o) needed room
    by_asked r e refused = rw (bounds_is, asked_is h row n o, accepted, ← e, ne_eqb r 0 (λ z. omega (arith, z, refused)))

    pub by_room : (r : ℕ) → 0 ≡ cond o n 0 → r ≡ cond (ltb room needed) 11 0 → r ≡ bounds_refusal h row (n, o) needed room
    by_room r e f = rw (bounds_is, asked_is h row n o, accepted, ← e, f)

-- what is asked is inside its limits where its check answers 0
pub inside_limits : (n : ℕ) (o : Bool) → 0 < n → 0 ≡ cond o n 0 → o ≡ false
inside_limits n true above e = absurd (omega (arith, above, e))
inside_limits n false above e = refl

-- what is known of a plan and of what is asked of it, where no check fits, and of the workspace too
pub record Asked (h : Head) (row : List ℕ) (o : Bool) (needed room : ℕ) : Type 0 where
  pub accepted : Accepted h row
  pub inside : o ≡ false
  pub enough : needed ≤ room

pub asked_inside :
    (h : Head) (row : List ℕ) (n : ℕ) (o : Bool) → 0 < n → first (asked_checks h row (n, o)) ≡ 0 → Accepted h row × (o ≡ false)
unfolding asked_checks plan_refusal
asked_inside h row zero o above e = absurd (omega arith)
asked_inside h row (suc n) o above e =
    let parts = none_fits_append (plan_checks h row) ((suc n, o) ∷ []) (plan_numbered h row) e in
    (parts.0, (none_fits n o [] parts.1).0)

pub asked :
    (h : Head) (row : List ℕ) (n : ℕ) (o : Bool) (needed room : ℕ) → 0 < n → bounds_refusal h row (n, o) needed room ≡ 0 → Asked h row o needed room
unfolding bounds_refusal bounds_checks
asked h row n o needed room above e =
    let parts = none_fits_append (asked_checks h row (n, o)) (room_check needed room ∷ []) (asked_numbered h row n o above) e in
    let known = asked_inside h row n o above parts.0 in
    record {
      accepted = known.0;
      inside = known.1;
      enough = ltb-false room needed (none_fits 10 (ltb room needed) [] parts.1).0;
    }

-- a month that is not outside
pub month_inside : (h : Head) (t : ℕ) → month_outside h t ≡ false → (0 < t) × (t ≤ h.months)
unfolding month_outside
month_inside h t e =
    let parts = neither (eqb t 0) (ltb h.months t) e in
    (not_zero (eqb-false t 0 parts.0), ltb-false h.months t parts.1)

pub inside_month : (h : Head) (t : ℕ) → 0 < t → t ≤ h.months → month_outside h t ≡ false
unfolding month_outside
inside_month h t above l = rw (ne_eqb t 0 (λ z. omega (arith, z)), le-ltb h.months t l)

pub beyond_months : (h : Head) (t : ℕ) → (1 ≤ t → t ≤ h.months → ⊥) → month_outside h t ≡ true
unfolding month_outside
beyond_months h zero out = refl
beyond_months h (suc t) out = rw (ne_eqb (suc t) 0 (λ z. omega (arith, z)), lt-ltb h.months (suc t) (lt_of_not-le (out (omega arith))))

-- and the other way round: nothing refuses
pub not_refused :
    {h : Head} {row : List ℕ} {o : Bool} {needed room : ℕ} (n : ℕ) → 0 < n → Asked h row o needed room → bounds_refusal h row (n, o) needed room ≡ 0
not_refused {h} {row} {o} {needed} {room} n above k =
    bounds_refusal_is h row n o needed room above
    ∙ rw (asked_is h row n o, k.accepted, k.inside, room_is needed room, le-ltb room needed k.enough)
