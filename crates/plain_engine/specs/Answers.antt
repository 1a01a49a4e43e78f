-- What the plain engine answers, for every input. Document 02: it "is shown equal to the main engine on each plan it takes".
use Rattle.std.specs.Prelude.{ℕ, Bool, not, ◌||◌, List, ltb, eqb}
use Rattle.model.specs.declared.Head.{Head}
use Rattle.model.specs.declared.Ask.{Ask}
use Rattle.model.specs.Limits.{max_small_months, max_small_opening, small_income}
use Rattle.model.specs.Plan.{Plan, plan_of}
use Rattle.model.specs.Bounds.{lower, upper}
use Rattle.model.specs.Refusal.{first, outside, asked_checks}
use Rattle.engine.specs.Answers.{Answer, bounds_answer}

-- "It refuses with 10 a plan of more than 6 months, of an opening above 6, or of an income other than 1."
unfoldable pub too_large : Head → Bool
too_large h = ltb max_small_months h.months || ltb max_small_opening h.opening || not (eqb h.income small_income)

-- the checks of the plan, then 10 for a plan that is too large and for a question outside its limits; it "uses no desk", so that there is no 11
unfoldable pub plain_refusal : Ask → List ℕ → ℕ
plain_refusal a row = first (asked_checks a.head row (10, too_large a.head || outside a.question))

-- the answer: the definitions of the main engine's bounds
unfoldable pub plain_answer : Ask → List ℕ → Answer
plain_answer a row = bounds_answer (plain_refusal a row) (lower p a.question) (upper p a.question)
  where
    p : Plan
    p = plan_of a.head row
