-- The rows of survival held against a target, for the functions below the call.
use Rattle.std.specs.Prelude.{ℕ, ◌+◌, ◌-◌, ◌<◌, ◌≤◌, cond, List, Option, Some, None, leb, ltb, length, drop}
use Rattle.model.specs.declared.Rounding.TheVariants.{Down}
use Rattle.model.specs.Levels.{largest_level}
use Rattle.model.specs.MonthRule.{Row}
use Rattle.claims.specs.Values.{Parts}
use Rattle.questions.specs.Survival.{survival_row}
use Rattle.target_rows.specs.declared.rows.Found.{Found}
use Rattle.target_rows.specs.Least.{least}

-- "the whole row lies below target", as far as a level
unfoldable pub Below : ℕ → ℕ → Row → Type 0
Below target top row = (s : ℕ) → s ≤ top → row s < target

-- some level of a row reaches the target
pub record Reaches (target top : ℕ) (row : Row) : Type 0 where
  pub level : ℕ
  pub inside : level ≤ top
  pub enough : target ≤ row level

-- Document 02: "The work is given up in the month when no level reaches the target any more." It is 0 where the work is not given up. The row before a month t
-- is that of the months from t on.
pub record GivenUp (income : ℕ) (severity : List ℕ) (opening : ℕ) (chances : List ℕ) (target month : ℕ) : Type 0 where
  pub reached : (t : ℕ) → month ≤ t → t ≤ length chances → Reaches target (largest_level income opening t) (survival_row Down income severity (drop t chances))
  pub below : 0 < month → Below target (largest_level income opening (month - 1)) (survival_row Down income severity (drop (month - 1) chances))

-- the month where it was given up, of months from 1 on, and 0 where it was not
abbrev pub given_month : Option ℕ → ℕ
given_month None = 0
given_month (Some t) = t + 1

-- What a walk back through the months takes beside its row, of so many numbers, and the table: the plan's chances, an income, and an opening from which no
-- month leads past the row.
pub record Walk (size income opening : ℕ) (chances : List ℕ) : Type 0 where
  pub chances_fit : Parts chances
  pub earns : 0 < income
  pub inside : largest_level income opening (length chances) < size

-- The least of the openings 0 to the largest whose lower bound reaches the target, with that bound; one above the largest, and 0, where none does.
unfoldable pub least_found : ℕ → List ℕ → ℕ → List ℕ → ℕ → Found
least_found income severity opening chances target = record { opening = v; lower = cond (ltb opening v) 0 (survival_row Down income severity chances v) }
  where
    v : ℕ
    v = least (opening + 1) (λ s. leb target (survival_row Down income severity chances s))

-- what was found as these have it: one above the largest opening, and 0, for none
abbrev pub found_of : ℕ → Option Found → Found
found_of opening None = record { opening = opening + 1; lower = 0 }
found_of opening (Some f) = f
