-- Laws of all months: rules that agree on the rows and levels in memory have equal values there, and one month on top of the months after it.
use mathlib.Core.Path.{◌≡◌, refl, sym, ◌∙◌, ap, ap₂}
use mathlib.Core.Logic.{⊎_elim}
use mathlib.Core.Bool.{Bool, true, false, ◌&&◌, cond}
use mathlib.Core.List.{List, [], ◌∷◌}
use Prim.Native.Nat.{ℕ, zero, suc, ◌+◌, ◌-◌, ◌≤◌, ◌<◌}
use native.Mathlib.Nat.{zero-mul}
use native.Mathlib.Omega.{arith}
use borrow.Author.Tests.{le-ltb}
use lib.Dec.{leb}
use lib.ListN.{length, get_or}
use Rattle.model.specs.declared.Rounding.{Rounding}
use Rattle.model.specs.Levels.{largest_level}
use Rattle.model.specs.MonthRule.{Row, Rule, month, kept, claimed_row, month_back, values}
use Rattle.model.proofs.LevelLaws.{level_start, level_next, level_from}
use Rattle.month_rows.specs.declared.rows.Shape.{Shape}
use Rattle.month_rows.specs.Rows.{after_claim_by, at, between}
use Rattle.month_rows.specs.Shapes.{row_with, values_in, allowed_places}
use Rattle.month_rule.specs.Months.{rule_by, beyond_opening, TakenBack}
use Rattle.model.proofs.SumLaws.{below_or_not}
use Rattle.month_rows.proofs.OneMonth.{month_agree}

-- two rules that agree on the first rows, up to a level
pub record Agree (q q' : Rule) (count top : ℕ) : Type 0 where
  pub claimed :
      (j : ℕ) → j < count → (X X' : ℕ → Row) (k : ℕ) → ((i : ℕ) → i < count → X i k ≡ X' i k) →
      claimed_row X (q.after_claim j) k ≡ claimed_row X' (q'.after_claim j) k
  pub allowed : (s : ℕ) → s ≤ top → q.allowed s ≡ q'.allowed s

-- a month of two such rules, over rows that agree
month_back_agree :
    (round : Rounding) (income : ℕ) (F : List ℕ) (q q' : Rule) (count top : ℕ) → Agree q q' count top → (P : ℕ) (N N' : ℕ → Row) (level : ℕ) → level ≤ top →
    ((i : ℕ) → i < count → (s : ℕ) → s ≤ level → N i s ≡ N' i s) →
    (k : ℕ) → k < count → (s : ℕ) → s + income ≤ level → month_back (month round income F) q P N k s ≡ month_back (month round income F) q' P N' k s
unfolding month_back kept
month_back_agree round income F q q' count top a P N N' level l h k b s m =
    month_agree round income F P (kept q.allowed (N k)) (claimed_row (λ j. kept q.allowed (N j)) (q.after_claim k)) (kept q'.allowed (N' k))
    (claimed_row (λ j. kept q'.allowed (N' j)) (q'.after_claim k)) s
    (same k b (s + income) m)
    (λ r c. a.claimed k b (λ j. kept q.allowed (N j)) (λ j. kept q'.allowed (N' j)) r (λ i d. same i d r (omega arith)))
  where
    same : (i : ℕ) → i < count → (r : ℕ) → r ≤ level → kept q.allowed (N i) r ≡ kept q'.allowed (N' i) r
    same i d r c = ap₂ (λ (t : Bool) (v : ℕ). cond t v 0) (a.allowed r (omega arith)) (h i d r c)

-- and all months
pub values_agree :
    (round : Rounding) (income : ℕ) (F : List ℕ) (q q' : Rule) (count top : ℕ) → Agree q q' count top →
    (last last' : ℕ → Row) → ((j : ℕ) → j < count → (s : ℕ) → s ≤ top → last j s ≡ last' j s) →
    (Ps : List ℕ) (j s : ℕ) → j < count → largest_level income s (length Ps) ≤ top →
    values (month round income F) q last Ps j s ≡ values (month round income F) q' last' Ps j s
unfolding values
values_agree round income F q q' count top a last last' h [] j s l m = h j l s (omega (arith, level_start income s))
values_agree round income F q q' count top a last last' h (P ∷ Ps) j s l m =
    month_back_agree round income F q q' count top a P (values (month round income F) q last Ps) (values (month round income F) q' last' Ps) (s + income)
    (omega (arith, level_next income s (length Ps), level_from income (s + income) (s + income) (length Ps) (omega arith)))
    (λ i b r c. values_agree round income F q q' count top a last last' h Ps i r b (omega (arith, level_next income s (length Ps), level_from income r (s + income) (length Ps) c)))
    j l s (omega arith)

-- a shape's rule agrees with itself: a claim leads to one of its rows
shape_agrees : (shape : Shape) (top : ℕ) → Agree (rule_by shape) (rule_by shape) shape.rows top
unfolding rule_by claimed_row after_claim_by
shape_agrees shape top = record { claimed = claimed_agree shape.tallied shape.rows; allowed = λ s l. refl }
  where
    claimed_agree :
        (tallied : Bool) (count j : ℕ) → j < count → (X X' : ℕ → Row) (k : ℕ) → ((i : ℕ) → i < count → X i k ≡ X' i k) →
        claimed_row X (after_claim_by tallied j) k ≡ claimed_row X' (after_claim_by tallied j) k
    claimed_agree true count zero l X X' k h = refl
    claimed_agree false count zero l X X' k h = h 0 l
    claimed_agree tallied count (suc j) l X X' k h = h j (omega arith)

-- the rows after a month: those that lie forbidden in memory, taken back
pub month_forbidden :
    (round : Rounding) (F : List ℕ) (shape : Shape) (top P : ℕ) (N X : ℕ → Row) →
    ((k : ℕ) → k < shape.rows → (s : ℕ) → s ≤ top → X k s ≡ kept (rule_by shape).allowed (N k) s) →
    (k : ℕ) → k < shape.rows → (s : ℕ) → s + shape.income ≤ top →
    month round shape.income F P (X k) (claimed_row X ((rule_by shape).after_claim k)) s ≡ month_back (month round shape.income F) (rule_by shape) P N k s
unfolding month_back
month_forbidden round F shape top P N X h k l s m =
    month_agree round shape.income F P (X k) (claimed_row X ((rule_by shape).after_claim k)) (kept (rule_by shape).allowed (N k))
    (claimed_row (λ j. kept (rule_by shape).allowed (N j)) ((rule_by shape).after_claim k)) s
    (h k l (s + shape.income) m)
    (λ r c. (shape_agrees shape top).claimed k l X (λ j. kept (rule_by shape).allowed (N j)) r (λ i d. h i d r (omega arith)))

-- no months, and one month on top of the months after it
pub taken_back_none : (round : Rounding) (F : List ℕ) (shape : Shape) (opening : ℕ) (rows : List ℕ) → TakenBack round F shape opening [] rows rows
unfolding values beyond_opening
taken_back_none round F shape opening rows = record { each = λ k l s m. rw (level_start shape.income opening); beyond = λ k l i a b. refl }

neither : (t : Bool) (v w : ℕ) → cond (t && false) v 0 ≡ cond (t && false) w 0
neither true v w = refl
neither false v w = refl

-- what a month reads beyond the places that it rewrites, where the months after it have been taken back
beyond_month :
    (round : Rounding) (F : List ℕ) (shape : Shape) (opening P : ℕ) (Ps before mid : List ℕ) → TakenBack round F shape (opening + shape.income) Ps before mid →
    (k : ℕ) → k < shape.rows → (i : ℕ) →
    kept (allowed_places shape (opening + shape.income)) (at (row_with shape mid k)) i ≡ beyond_opening round F shape opening (P ∷ Ps) before k i
unfolding kept beyond_opening between
beyond_month round F shape opening P Ps before mid h k l i = ⊎_elim past inside (below_or_not (opening + shape.income) i)
  where
    new : Row
    new = values (month round shape.income F) (rule_by shape) (values_in shape (largest_level shape.income (opening + shape.income) (length Ps)) before) Ps k

    inside : i ≤ opening + shape.income → kept (allowed_places shape (opening + shape.income)) (at (row_with shape mid k)) i ≡ kept (allowed_places shape (opening + shape.income)) (λ i. new (opening + shape.income - i)) i
    inside m =
        let place : opening + shape.income - (opening + shape.income - i) ≡ i = omega arith in
        ap (λ (v : ℕ). cond (allowed_places shape (opening + shape.income) i) v 0)
        (rw place at (h.each k l (opening + shape.income - i) (omega arith)))

    past : opening + shape.income < i → kept (allowed_places shape (opening + shape.income)) (at (row_with shape mid k)) i ≡ kept (allowed_places shape (opening + shape.income)) (λ i. new (opening + shape.income - i)) i
    past m = rw (le-ltb i (opening + shape.income + 1 - shape.low) (omega arith)) (neither (leb (opening + shape.income + 1 - shape.above) i) (at (row_with shape mid k) i) (new (opening + shape.income - i)))

pub taken_back_more :
    (round : Rounding) (F : List ℕ) (shape : Shape) (opening P : ℕ) (Ps before mid after : List ℕ) →
    TakenBack round F shape (opening + shape.income) Ps before mid →
    ((k : ℕ) → k < shape.rows → (s : ℕ) → s + shape.income ≤ opening + shape.income →
    values_in shape (opening + shape.income - shape.income) after k s ≡ month_back (month round shape.income F) (rule_by shape) P (values_in shape (opening + shape.income) mid) k s) →
    ((k : ℕ) → k < shape.rows → (i : ℕ) → opening + shape.income < i + shape.income → i < shape.width →
    at (row_with shape after k) i ≡ kept (allowed_places shape (opening + shape.income)) (at (row_with shape mid k)) i) →
    TakenBack round F shape opening (P ∷ Ps) before after
unfolding values
taken_back_more round F shape opening P Ps before mid after h back beyond =
    record {
      each =
          λ k l s m.
          let same : opening + shape.income - shape.income ≡ opening = omega arith in
          rw same at (back k l s (omega arith))
          ∙ month_back_agree round shape.income F (rule_by shape) (rule_by shape) shape.rows (opening + shape.income) (shape_agrees shape (opening + shape.income)) P
          (values_in shape (opening + shape.income) mid) (values (month round shape.income F) (rule_by shape) (values_in shape (largest_level shape.income (opening + shape.income) (length Ps)) before) Ps)
          (opening + shape.income) (omega arith) h.each k l s (omega arith)
          ∙ ap (λ (top : ℕ). values (month round shape.income F) (rule_by shape) (values_in shape top before) (P ∷ Ps) k s)
          (sym (level_next shape.income opening (length Ps)));
      beyond = λ k l i a b. beyond k l i (omega arith) b ∙ beyond_month round F shape opening P Ps before mid h k l i;
    }

-- the value at the opening with all claims to place stands at the first place of all
pub taken_value :
    (round : Rounding) (F : List ℕ) (shape : Shape) (opening : ℕ) (Ps before after : List ℕ) → TakenBack round F shape opening Ps before after →
    0 < shape.rows → (last : ℕ → Row) →
    ((k : ℕ) → k < shape.rows → (s : ℕ) → s ≤ largest_level shape.income opening (length Ps) → values_in shape (largest_level shape.income opening (length Ps)) before k s ≡ last k s) →
    get_or after 0 0 ≡ values (month round shape.income F) (rule_by shape) last Ps (shape.rows - 1) opening
taken_value round F shape opening Ps before after h some_row last same =
    let row : shape.rows - 1 - (shape.rows - 1) ≡ 0 = omega arith in
    let place : opening - opening ≡ 0 = omega arith in
    let here : values_in shape opening after (shape.rows - 1) opening ≡ get_or after 0 0 = rw (row, place, zero-mul) in
    let top : ℕ = largest_level shape.income opening (length Ps) in
    sym here
    ∙ h.each (shape.rows - 1) (omega arith) opening (omega arith)
    ∙ values_agree round shape.income F (rule_by shape) (rule_by shape) shape.rows top (shape_agrees shape top) (values_in shape top before) last same Ps
    (shape.rows - 1) opening (omega arith) (omega arith)
