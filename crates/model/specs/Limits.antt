-- The limits of documents 01 and 02, and the rooms that follow from them, for the definitions; src/limits.rt has them for the code, and the
-- proofs hold the two equal.
use Rattle.std.specs.Prelude.{ℕ, ◌+◌, ◌*◌}

-- "Months go up to 120"
abbrev pub max_months : ℕ
max_months = 120

-- "opening u (0 to 200)"
abbrev pub max_opening : ℕ
max_opening = 200

-- "sizes up to 320"
abbrev pub max_sizes : ℕ
max_sizes = 320

-- "both k (0 to 24)"
abbrev pub max_claims : ℕ
max_claims = 24

-- "L in high and low up to 320"
abbrev pub max_level : ℕ
max_level = 320

-- "The count row has 121 places": one for each number of claims from 0 to the longest plan's
abbrev pub places : ℕ
places = max_months + 1

-- "Some groups now pay 1 to 8 units a month."
abbrev pub max_income : ℕ
max_income = 8

-- "It refuses … u + c × n above 320": the largest level of any plan
abbrev pub max_span : ℕ
max_span = 320

-- Document 02, of small plans: refused is "a plan of more than 6 months, of an opening above 6, or of an income other than 1"
abbrev pub max_small_months : ℕ
max_small_months = 6

abbrev pub max_small_opening : ℕ
max_small_opening = 6

abbrev pub small_income : ℕ
small_income = 1

-- Document 02: "A mix is 1 to 8 plans"
abbrev pub max_plans : ℕ
max_plans = 8

-- room for the longest row of a plan
abbrev pub row_room : ℕ
row_room = max_months + max_sizes + 1

-- room for the rows of all plans of a mixture, end to end
abbrev pub rows_room : ℕ
rows_room = max_plans * row_room

-- room for the levels of the longest row of values
abbrev pub level_room : ℕ
level_room = max_span + 1

-- room for both rows of survival of every plan
abbrev pub survival_room : ℕ
survival_room = 2 * level_room

-- room for both bounds of every opening of every plan
abbrev pub bounds_room : ℕ
bounds_room = 2 * (max_opening + 1)

-- room for the rows of every question on every plan
abbrev pub workspace_room : ℕ
workspace_room = survival_room * (max_claims + 1)
