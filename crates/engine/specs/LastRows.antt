-- The rows from which a call's months go back.
use Rattle.std.specs.Prelude.{ℕ, ◌*◌, ◌-◌, ◌<◌, ◌≤◌, ◌≡◌, List, take}
use Rattle.model.specs.declared.Head.{Head}
use Rattle.engine.specs.declared.bounds.LastRows.{LastRows}
use Rattle.engine.specs.declared.bounds.LastRows.TheVariants.{Placed, Ruin}
use Rattle.month_rows.specs.declared.rows.Shape.{Shape}
use Rattle.model.specs.declared.Rounding.{Rounding}
use Rattle.model.specs.Plan.{Plan}
use Rattle.model.specs.Levels.{row_levels}
use Rattle.model.specs.MonthRule.{Row, month, values, all_placed, ruin_row}
use Rattle.month_rows.specs.Rows.{at}
use Rattle.month_rows.specs.Shapes.{rows_size, row_with, values_in}
use Rattle.month_rule.specs.Months.{rule_by}
use Rattle.ruin_rows.specs.Terms.{RuinTerms}

-- their values, by the claims left and the level
unfoldable pub last_rows : LastRows → Rounding → ℕ → List ℕ → ℕ → ℕ → Row
last_rows Placed round income severity tail k = all_placed k
last_rows (Ruin P) round income severity tail k = ruin_row round income severity tail P

-- what lies in memory past the place of level 0
unfoldable pub past_last : LastRows → ℕ → ℕ
past_last Placed k = all_placed k 0
past_last (Ruin P) k = 0

-- rows in memory that are the last rows, with the level `top` at place 0
pub record LastIn (last : LastRows) (round : Rounding) (severity : List ℕ) (tail : ℕ) (shape : Shape) (top : ℕ) (xs : List ℕ) : Type 0 where
  pub each : (k : ℕ) → k < shape.rows → (s : ℕ) → s ≤ top → values_in shape top xs k s ≡ last_rows last round shape.income severity tail k s
  pub past : (k : ℕ) → k < shape.rows → (i : ℕ) → top < i → i < shape.width → at (row_with shape xs k) i ≡ past_last last k

-- what they ask of a shape and of the plan's numbers: ruin is not told apart by claims, so that there is one row
unfoldable pub LastFits : LastRows → Shape → List ℕ → ℕ → Type 0
LastFits Placed shape severity tail = 0 < shape.rows
LastFits (Ruin P) shape severity tail = (shape.rows ≡ 1) × RuinTerms severity tail P

-- What working out an answer needs: rows as wide as the plan's levels, with its income, lent twice, and months of the plan.
pub record Workable (h : Head) (months : ℕ) (shape : Shape) (room : ℕ) : Type 0 where
  pub wide : shape.width ≡ row_levels h.income h.opening h.months
  pub earns : shape.income ≡ h.income
  pub within : months ≤ h.months
  pub enough : 2 * rows_size shape ≤ room

-- the value at the opening with all claims to place, from the last rows through the plan's first months
abbrev pub opening_value : Rounding → Plan → ℕ → Shape → LastRows → ℕ
opening_value round p months shape last =
    values (month round p.income p.severity) (rule_by shape) (last_rows last round p.income p.severity p.tail) (take months p.chances) (shape.rows - 1) p.opening
