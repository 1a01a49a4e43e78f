-- The rows that a question needs in memory.
use Rattle.std.specs.Prelude.{ℕ, ◌+◌, true, false}
use Rattle.model.specs.declared.Question.{Question}
use Rattle.model.specs.declared.Question.TheVariants.{Survive, Both, High, Low}
use Rattle.month_rows.specs.declared.rows.Shape.{Shape}

-- the shape of a question over rows of a width, with an income: only both k counts claims, only high and low forbid levels that a row has
unfoldable pub shape_of : Question → ℕ → ℕ → Shape
shape_of Survive width income = record { rows = 1; width = width; income = income; tallied = false; low = 0; above = width }
shape_of (Both k) width income = record { rows = k + 1; width = width; income = income; tallied = true; low = 0; above = width }
shape_of (High L) width income = record { rows = 1; width = width; income = income; tallied = false; low = 0; above = L + 1 }
shape_of (Low L) width income = record { rows = 1; width = width; income = income; tallied = false; low = L; above = width }
