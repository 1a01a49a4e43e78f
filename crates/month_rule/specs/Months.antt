-- What all months take, the rule that the rows of a shape follow, and what going back through months makes of them.
use Rattle.std.specs.Prelude.{ℕ, ◌+◌, ◌-◌, ◌*◌, ◌<◌, ◌≤◌, ◌≡◌, List, [], ◌∷◌, length}
use Rattle.month_rows.specs.declared.rows.Shape.{Shape}
use Rattle.model.specs.declared.Rounding.{Rounding}
use Rattle.model.specs.Limits.{max_sizes}
use Rattle.model.specs.Scale.{S}
use Rattle.model.specs.Sums.{total}
use Rattle.model.specs.Levels.{largest_level}
use Rattle.model.specs.MonthRule.{Row, Rule, kept, month, values}
use Rattle.claims.specs.Values.{Parts}
use Rattle.month_rows.specs.Rows.{after_claim_by, at, between}
use Rattle.month_rows.specs.Shapes.{rows_size, row_with, values_in, allowed_places}

-- what all months take
pub record PlanTerms (severity chances : List ℕ) : Type 0 where
  pub weights_fit : total severity ≤ S
  pub sizes_fit : length severity ≤ max_sizes
  pub chances_fit : Parts chances

-- the same rows twice: those of the lower bound, then those of the upper
pub record HalvesIn (shape : Shape) (xs : List ℕ) : Type 0 where
  pub some : 0 < shape.rows
  pub income_some : 0 < shape.income
  pub size : length xs ≡ 2 * rows_size shape
  pub parts : Parts xs

-- the rule of a shape
unfoldable pub rule_by : Shape → Rule
rule_by shape = record { after_claim = after_claim_by shape.tallied; allowed = between shape.low shape.above }

-- What months leave beyond the place of level 0 of a row: with no months what lay there. Otherwise the values after the first month at the levels below
-- its income, 0 where forbidden, since that month has no value to put in their places; and 0 beyond those.
unfoldable pub beyond_opening : Rounding → List ℕ → Shape → ℕ → List ℕ → List ℕ → ℕ → Row
beyond_opening round severity shape opening [] before k i = at (row_with shape before k) i
beyond_opening round severity shape opening (P ∷ later) before k i =
    kept (allowed_places shape (opening + shape.income))
    (λ i. values (month round shape.income severity) (rule_by shape) (values_in shape (largest_level shape.income (opening + shape.income) (length later)) before) later k (opening + shape.income - i))
    i

-- The rows after, as far as the level `opening`, are the month rule's values over the chances, from the rows before as its last rows.
pub record TakenBack (round : Rounding) (severity : List ℕ) (shape : Shape) (opening : ℕ) (chances before after : List ℕ) : Type 0 where
  pub each :
      (k : ℕ) → k < shape.rows → (s : ℕ) → s ≤ opening →
      values_in shape opening after k s
      ≡ values (month round shape.income severity) (rule_by shape) (values_in shape (largest_level shape.income opening (length chances)) before) chances k s
  pub beyond :
      (k : ℕ) → k < shape.rows → (i : ℕ) → opening < i → i < shape.width →
      at (row_with shape after k) i ≡ beyond_opening round severity shape opening chances before k i
