-- Laws of a question's shape: which rows it needs, and that their rule has the question's values.
use mathlib.Core.Path.{◌≡◌, refl, sym}
use mathlib.Core.Logic.{⊎_elim}
use mathlib.Core.Bool.{Bool, true, false, ◌&&◌}
use mathlib.Core.List.{List}
use mathlib.Core.Option.{some}
use Prim.Native.Nat.{ℕ, zero, suc, ◌+◌, ◌-◌, ◌≤◌, zero-le, ◌<◌}
use native.Mathlib.Omega.{arith}
use lib.Dec.{leb}
use lib.ListN.{length}
use borrow.Author.Tests.{le-leb, lt-leb, lt-ltb, le-ltb}
use Rattle.model.specs.declared.Question.{Question}
use Rattle.model.specs.declared.Question.TheVariants.{Survive, Both, High, Low}
use Rattle.model.specs.Levels.{largest_level}
use Rattle.model.specs.declared.Rounding.{Rounding}
use Rattle.model.specs.Scale.{S}
use Rattle.model.specs.MonthRule.{Row, month, values, rule_of, last_of, claims_of, claimed_row, all_placed, one_fewer}
use Rattle.model.specs.Refusal.{rows_needed}
use Rattle.month_rows.specs.Rows.{between, after_claim_by}
use Rattle.month_rule.specs.Months.{rule_by}
use Rattle.model.proofs.SumLaws.{below_or_not}
use Rattle.month_rule.proofs.AllMonths.{Agree, values_agree}
use Rattle.questions.specs.Needs.{shape_of}

pub shape_rows : (q : Question) (width income : ℕ) → (shape_of q width income).rows ≡ rows_needed q
unfolding shape_of rows_needed
shape_rows Survive width income = refl
shape_rows (Both k) width income = refl
shape_rows (High L) width income = refl
shape_rows (Low L) width income = refl

pub shape_width : (q : Question) (width income : ℕ) → (shape_of q width income).width ≡ width
unfolding shape_of
shape_width Survive width income = refl
shape_width (Both k) width income = refl
shape_width (High L) width income = refl
shape_width (Low L) width income = refl

pub shape_income : (q : Question) (width income : ℕ) → (shape_of q width income).income ≡ income
unfolding shape_of
shape_income Survive width income = refl
shape_income (Both k) width income = refl
shape_income (High L) width income = refl
shape_income (Low L) width income = refl

-- the claims to place are those of the last row
claims_last : (q : Question) (width income : ℕ) → claims_of q ≡ (shape_of q width income).rows - 1
unfolding claims_of shape_of
claims_last Survive width income = refl
claims_last (Both k) width income = omega arith
claims_last (High L) width income = refl
claims_last (Low L) width income = refl

-- Where claims are not tallied there is one row, and every claim leads back to it.
one_last : (j : ℕ) → j < 1 → (s : ℕ) → S ≡ all_placed j s
unfolding all_placed
one_last zero l s = refl
one_last (suc j) l s = absurd (omega arith)

pub last_agree : (q : Question) (width income j : ℕ) → j < (shape_of q width income).rows → (s : ℕ) → last_of q j s ≡ all_placed j s
unfolding last_of shape_of
last_agree Survive width income j l s = one_last j l s
last_agree (Both k) width income j l s = refl
last_agree (High L) width income j l s = one_last j l s
last_agree (Low L) width income j l s = one_last j l s

one_claimed :
    (j : ℕ) → j < 1 → (X X' : ℕ → Row) (k : ℕ) → ((i : ℕ) → i < 1 → X i k ≡ X' i k) →
    claimed_row X (some j) k ≡ claimed_row X' (after_claim_by false j) k
unfolding claimed_row after_claim_by
one_claimed zero l X X' k h = h 0 l
one_claimed (suc j) l X X' k h = absurd (omega arith)

both_claimed :
    (count j : ℕ) → j < count → (X X' : ℕ → Row) (k : ℕ) → ((i : ℕ) → i < count → X i k ≡ X' i k) →
    claimed_row X (one_fewer j) k ≡ claimed_row X' (after_claim_by true j) k
unfolding claimed_row after_claim_by one_fewer
both_claimed count zero l X X' k h = refl
both_claimed count (suc j) l X X' k h = h j (omega arith)

-- the levels of the rows are those that are not forbidden
all_between : (top s : ℕ) → s ≤ top → true ≡ between 0 (top + 1) s
unfolding between
all_between top s l = rw (le-leb 0 s zero-le, lt-ltb s (top + 1) (omega arith))

high_between : (L s : ℕ) → leb s L ≡ between 0 (L + 1) s
unfolding between
high_between L s =
    ⊎_elim
    (λ l. rw (le-leb s L (omega arith), le-leb 0 s zero-le, lt-ltb s (L + 1) l))
    (λ l. rw (lt-leb s L (omega arith), le-leb 0 s zero-le, le-ltb s (L + 1) l))
    (below_or_not s (L + 1))

low_between : (L top s : ℕ) → s ≤ top → leb L s ≡ between L (top + 1) s
unfolding between
low_between L top s l = rw (lt-ltb s (top + 1) (omega arith)) (and_true (leb L s))
  where
    and_true : (t : Bool) → t ≡ t && true
    and_true true = refl
    and_true false = refl

-- the rule of a question and the rule of its shape
shape_agree : (q : Question) (top income : ℕ) → Agree (rule_of q) (rule_by (shape_of q (top + 1) income)) (shape_of q (top + 1) income).rows top
unfolding rule_of rule_by shape_of
shape_agree Survive top income = record { claimed = one_claimed; allowed = all_between top }
shape_agree (Both k) top income = record { claimed = both_claimed (k + 1); allowed = all_between top }
shape_agree (High L) top income = record { claimed = one_claimed; allowed = λ s m. high_between L s }
shape_agree (Low L) top income = record { claimed = one_claimed; allowed = low_between L top }

-- The value of a question's rule, from its shape: over rows wide enough for the months, and last rows that agree where there is a row.
pub shape_value :
    (round : Rounding) (income : ℕ) (F Ps : List ℕ) (q : Question) (u top width : ℕ) → width ≡ top + 1 → largest_level income u (length Ps) ≤ top → 0 < (shape_of q width income).rows →
    (last last' : ℕ → Row) → ((j : ℕ) → j < (shape_of q width income).rows → (s : ℕ) → last' j s ≡ last j s) →
    values (month round income F) (rule_by (shape_of q width income)) last Ps ((shape_of q width income).rows - 1) u ≡ values (month round income F) (rule_of q) last' Ps (claims_of q) u
shape_value round income F Ps q u top width e l p last last' same =
    rw (claims_last q width income)
    (sym
    (values_agree round income F (rule_of q) (rule_by (shape_of q width income)) (shape_of q width income).rows top (rw e (shape_agree q top income)) last' last (λ j l s m. same j l s)
    Ps ((shape_of q width income).rows - 1) u (omega arith) l))
