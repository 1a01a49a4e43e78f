-- The rows of a question in memory, by the claims left and the level.
use Rattle.std.specs.Prelude.{ℕ, ◌+◌, ◌-◌, ◌*◌, ◌<◌, ◌≤◌, ◌≡◌, Bool, List, length, drop}
use Rattle.month_rows.specs.declared.rows.Shape.{Shape}
use Rattle.model.specs.MonthRule.{Row}
use Rattle.claims.specs.Values.{from_top, Parts}
use Rattle.month_rows.specs.Rows.{between}

-- the numbers of all rows of a shape
abbrev pub rows_size : Shape → ℕ
rows_size shape = shape.rows * shape.width

-- The row with k claims left. Rows lie one after the other, from the most claims left to none.
abbrev pub row_with : Shape → List ℕ → ℕ → List ℕ
row_with shape xs k = drop ((shape.rows - 1 - k) * shape.width) xs

-- the values of the rows, by the claims left and the level, where place 0 of each row holds the level `top`
abbrev pub values_in : Shape → ℕ → List ℕ → ℕ → Row
values_in shape top xs k = from_top top (row_with shape xs k)

-- rows of a shape in memory: at least one, with an income, of the shape's size, and no number above S
pub record RowsIn (shape : Shape) (xs : List ℕ) : Type 0 where
  pub some : 0 < shape.rows
  pub income_some : 0 < shape.income
  pub size : length xs ≡ rows_size shape
  pub parts : Parts xs

-- a level at place 0 of rows that a month takes back: its income lies below, and the row has a place for each level
pub record TopIn (shape : Shape) (top : ℕ) : Type 0 where
  pub income_below : shape.income ≤ top
  pub inside : top < shape.width

-- the places whose level is allowed, where place 0 holds the level `top`; beyond place `top` there is none
abbrev pub allowed_places : Shape → ℕ → ℕ → Bool
allowed_places shape top = between (top + 1 - shape.above) (top + 1 - shape.low)
