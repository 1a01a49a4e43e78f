-- Laws of the call: what is known where it is not refused, and that it answers what the main engine answers.
use Prim.Native.Nat.{ℕ, ◌+◌, ◌-◌, ◌≤◌}
use mathlib.Core.Path.{◌≡◌, sym, ◌∙◌, ap}
use mathlib.Core.Bool.{true, false, ◌||◌}
use mathlib.Core.List.{List}
use native.Mathlib.Omega.{arith}
use lib.Dec.{ltb}
use lib.ListN.{take, drop, length-take}
use borrow.Author.Tests.{not-false, ltb-false, eqb-true, ne_eqb}
use Rattle.model.specs.declared.Head.{Head}
use Rattle.model.specs.declared.Ask.{Ask}
use Rattle.model.specs.declared.Question.{Question}
use Rattle.model.specs.declared.Rounding.{Rounding}
use Rattle.model.specs.Limits.{max_small_months, max_small_opening, small_income}
use Rattle.model.specs.Plan.{plan_of}
use Rattle.model.specs.MonthRule.{kept, month, values, value, rule_of, last_of, claims_of, opening_allowed}
use Rattle.model.specs.Bounds.{bound, lower, upper, EnclosesQuestion}
use Rattle.model.specs.Refusal.{plan_refusal, Accepted, first, outside, asked_checks, workspace_needed}
use Rattle.model.proofs.Facts.{neither}
use Rattle.model.proofs.Theorems.{severity_fits, chances_fit, enclosure}
use Rattle.questions.proofs.RefusalLaws.{asked_is, asked_inside, not_refused}
use Rattle.engine.specs.Answers.{Answer, refused, bounds_answer, answer}
use Rattle.engine.proofs.AnswerLaws.{number_is, bounds_are, answer_worked, severity_lent}
use Rattle.plain_engine.specs.Steps.{Terms}
use Rattle.plain_engine.specs.Answers.{too_large, plain_refusal, plain_answer}

-- the refusal: the plan's, or else by whether the plan is too large
pub plan_refused : (a : Ask) (row : List ℕ) (n : ℕ) → n ≡ plan_refusal a.head row → (n ≡ 0 → ⊥) → n ≡ plain_refusal a row
unfolding plain_refusal
plan_refused a row n e ne = rw (asked_is a.head row 10 _, ← e, ne_eqb n 0 ne)

pub large_refused : (a : Ask) (row : List ℕ) → too_large a.head ≡ true → first (asked_checks a.head row (10, true)) ≡ plain_refusal a row
unfolding plain_refusal
large_refused a row e = rw e

pub small_refused :
    (a : Ask) (row : List ℕ) → too_large a.head ≡ false → first (asked_checks a.head row (10, outside a.question)) ≡ plain_refusal a row
unfolding plain_refusal
small_refused a row e = rw e

-- what is known of an ask that is not refused
pub record Taken (a : Ask) (row : List ℕ) : Type 0 where
  pub accepted : Accepted a.head row
  pub inside : outside a.question ≡ false
  pub months_few : a.head.months ≤ max_small_months
  pub opening_low : a.head.opening ≤ max_small_opening
  pub earns : a.head.income ≡ small_income

pub taken : (a : Ask) (row : List ℕ) → plain_refusal a row ≡ 0 → Taken a row
unfolding plain_refusal too_large
taken a row e =
    let known = asked_inside a.head row 10 _ (omega arith) e in
    let parts = neither (too_large a.head) (outside a.question) known.1 in
    let small = neither (ltb max_small_months a.head.months || ltb max_small_opening a.head.opening) _ parts.0 in
    let low = neither (ltb max_small_months a.head.months) _ small.0 in
    record {
      accepted = known.0;
      inside = parts.1;
      months_few = ltb-false _ _ low.0;
      opening_low = ltb-false _ _ low.1;
      earns = eqb-true _ _ (not-false _ small.1);
    }

-- the bounds of a plan with an income of 1 are the values at its opening
pub bound_is :
    (round : Rounding) (h : Head) (row : List ℕ) → h.income ≡ small_income → (q : Question) →
    kept (opening_allowed q) (values (month round small_income (plan_of h row).severity) (rule_of q) (last_of q) (plan_of h row).chances (claims_of q)) h.opening
    ≡ bound round (plan_of h row) q
unfolding bound value plan_of
bound_is round h row earns q = rw earns

-- Document 02: "shown equal to the main engine on each plan it takes", with any workspace that is large enough
pub same_answer :
    (a : Ask) (row : List ℕ) (room : ℕ) → plain_refusal a row ≡ 0 → workspace_needed a ≤ room → plain_answer a row ≡ answer a row room
unfolding plain_answer answer
same_answer a row room none enough =
    let known = taken a row none in
    rw (none, not_refused {needed = workspace_needed a} {room = room} 10 (omega arith) (record { accepted = known.accepted; inside = known.inside; enough = enough }))

-- what the values take, of the parts of the row as they are lent
pub terms_lent :
    (a : Ask) (row : List ℕ) → Taken a row →
    Terms (take (a.head.months + a.head.sizes - a.head.months) (drop a.head.months row)) (take a.head.months row) a.head.opening
unfolding plan_of
terms_lent a row t =
    record {
      weights_fit = rw (severity_lent a.head row) (severity_fits a.head row t.accepted);
      chances_fit = chances_fit a.head row t.accepted;
      levels_fit = omega (arith, t.opening_low, t.months_few, length-take a.head.months row);
    }

-- the value at the opening, over the parts as they are lent, is the plan's bound
pub bound_lent :
    (round : Rounding) (a : Ask) (row : List ℕ) → Taken a row → (r : ℕ) →
    r
    ≡ kept (opening_allowed a.question) (values (month round small_income (take (a.head.months + a.head.sizes - a.head.months) (drop a.head.months row))) (rule_of a.question) (last_of a.question) (take a.head.months row) (claims_of a.question)) a.head.opening →
    r ≡ bound round (plan_of a.head row) a.question
unfolding plan_of
bound_lent round a row t r e = (rw (severity_lent a.head row) at e) ∙ bound_is round a.head row t.earns a.question

-- What the clauses of the call say besides its equation.
pub clauses :
    (a : Ask) (row : List ℕ) (r : Answer) → r ≡ plain_answer a row →
    (r ≡ plain_answer a row)
    × ((r.refusal ≡ 0 → (room : ℕ) → workspace_needed a ≤ room → r ≡ answer a row room)
    × (r.refusal ≡ 0 → EnclosesQuestion (plan_of a.head row) a.question r.lower r.upper))
unfolding plain_answer
clauses a row r e = (e, (λ z room enough. e ∙ same_answer a row room (none z) enough, λ z. encloses (none z)))
  where
    none : r.refusal ≡ 0 → plain_refusal a row ≡ 0
    none z = sym (number_is (plain_refusal a row) _ _) ∙ sym (ap (λ (x : Answer). x.refusal) e) ∙ z

    encloses : plain_refusal a row ≡ 0 → EnclosesQuestion (plan_of a.head row) a.question r.lower r.upper
    encloses z =
        let both = bounds_are (plain_refusal a row) (lower (plan_of a.head row) a.question) (upper (plan_of a.head row) a.question) (number_is (plain_refusal a row) _ _ ∙ z) in
        rw (ap (λ (x : Answer). x.lower) e ∙ both.0, ap (λ (x : Answer). x.upper) e ∙ both.1)
        (enclosure a.head row (taken a row z).accepted a.question)

-- the answer of a refusal, and of an ask that is not refused
pub refused_is : (a : Ask) (row : List ℕ) (n : ℕ) → n ≡ plain_refusal a row → (n ≡ 0 → ⊥) → ◌≡◌ {A = Answer} (record { refusal = n; lower = 0; upper = 0 }) (plain_answer a row)
unfolding plain_answer bounds_answer refused
refused_is a row n e ne = rw (← e, ne_eqb n 0 ne)

pub answered_is :
    (a : Ask) (row : List ℕ) (low high : ℕ) → plain_refusal a row ≡ 0 → low ≡ lower (plan_of a.head row) a.question → high ≡ upper (plan_of a.head row) a.question →
    ◌≡◌ {A = Answer} (record { refusal = 0; lower = low; upper = high }) (plain_answer a row)
unfolding plain_answer
answered_is a row low high none el eh = rw none (answer_worked low high _ _ el eh)
