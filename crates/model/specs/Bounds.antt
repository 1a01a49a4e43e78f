-- The two bounds of an answer, and what demand 3 says of them.
use Rattle.std.specs.Prelude.{ℕ, ◌+◌, ◌*◌, ◌-◌, ◌/◌, ◌%◌, ◌^◌, ◌≤◌, List, ltb, take}
use Rattle.model.specs.declared.Rounding.{Rounding}
use Rattle.model.specs.declared.Rounding.TheVariants.{Down, Up}
use Rattle.model.specs.declared.Question.{Question}
use Rattle.model.specs.Scale.{S}
use Rattle.model.specs.Sums.{sum, count}
use Rattle.model.specs.Plan.{Plan, horizon, nth}
use Rattle.model.specs.Exact.{exact, exact_ruin, exact_count}
use Rattle.model.specs.MonthRule.{Row, claim_sum, month, value, ruin_weight, ruin_row, carried_back}
use Rattle.model.specs.SplitMonth.{split_parts}
use Rattle.model.specs.CountRow.{one_before, count_row}

-- the month rule's answer, rounded
unfoldable pub bound : Rounding → Plan → Question → ℕ
bound round p q = value (month round p.income p.severity) p q

abbrev pub lower : Plan → Question → ℕ
lower p q = bound Down p q

abbrev pub upper : Plan → Question → ℕ
upper p q = bound Up p q

abbrev pub count_lower : Plan → ℕ → ℕ
count_lower p k = count_row Down p.chances k

abbrev pub count_upper : Plan → ℕ → ℕ
count_upper p k = count_row Up p.chances k

-- Document 02, of a month's line `fails t`: the value before month t, carried back to the opening
unfoldable pub ruin_bound : Rounding → Plan → ℕ → ℕ
ruin_bound round p t =
    carried_back (month round p.income p.severity) p t (ruin_row round p.income p.severity p.tail (nth p.chances t))

abbrev pub ruin_lower : Plan → ℕ → ℕ
ruin_lower p t = ruin_bound Down p t

abbrev pub ruin_upper : Plan → ℕ → ℕ
ruin_upper p t = ruin_bound Up p t

-- the line `fails all`, "whose two numbers are the sums of the lower and of the upper bounds of the fails lines above it, 0 and 0 with no months"
abbrev pub ruin_lowers : Plan → ℕ
ruin_lowers p = sum (horizon p) (ruin_lower p)

abbrev pub ruin_uppers : Plan → ℕ
ruin_uppers p = sum (horizon p) (ruin_upper p)

-- "Z is the number of months t from 1 to n with P_t above 0."
unfoldable pub live_months : List ℕ → ℕ
live_months chances = count (λ P. ltb 0 P) chances

-- "the gap rule counting months 1 to t"
abbrev pub months_to : Plan → ℕ → List ℕ
months_to p t = take t p.chances

-- the parts of S that a month with a chance above 0 may add to the gap. Document 02: "The gap rule now allows one part a month"
abbrev pub month_gap : ℕ
month_gap = 1

-- Demand 3 of two numbers low and high, and the weight W of the histories that keep a condition; `gap-months` are the chances of the months that the gap
-- rule counts: all of the plan's for a question and for a place of the count row, those of months 1 to t for ruin in month t
pub record Encloses (p : Plan) (gap_months : List ℕ) (W low high : ℕ) : Type 0 where
  -- "Enclosure: lower × S^(2n) ≤ W × S ≤ upper × S^(2n)"
  pub below : low * S ^ (2 * horizon p) ≤ W * S
  pub above : W * S ≤ high * S ^ (2 * horizon p)
  -- "Gap rule": upper ≤ lower + Z, "Z instead of 2 × Z" by document 02
  pub gap : high ≤ low + month_gap * live_months gap_months

-- … of a question's answer, of ruin in month t, and of place k of the count row
abbrev pub EnclosesQuestion : Plan → Question → ℕ → ℕ → Type 0
EnclosesQuestion p q low high = Encloses p p.chances (exact p q) low high

abbrev pub EnclosesRuin : Plan → ℕ → ℕ → ℕ → Type 0
EnclosesRuin p t low high = Encloses p (months_to p t) (exact_ruin p t) low high

abbrev pub EnclosesCount : Plan → ℕ → ℕ → ℕ → Type 0
EnclosesCount p k low high = Encloses p p.chances (exact_count p k) low high

-- "No sum need pass 2^62"
unfoldable pub largest : ℕ
largest = 2 ^ 62

-- … said of a month at a level, as it is worked out: of each product, of the claim sum, and of each sum with the S − 1 that rounding up adds to it
pub record MonthLimits (round : Rounding) (income : ℕ) (severity : List ℕ) (P : ℕ) (quiet claimed : Row) (s : ℕ) : Type 0 where
  pub product : (x r : ℕ) → nth severity x * claimed r ≤ largest
  pub claim_total : claim_sum severity claimed (s + income) ≤ largest
  pub left_total : P * (claim_sum severity claimed (s + income) % S) + (S - 1) ≤ largest
  pub month_total :
      split_parts round P (quiet (s + income)) (claim_sum severity claimed (s + income) / S) (claim_sum severity claimed (s + income) % S) + (S - 1)
      ≤ largest

-- … and of a month of the count row at a place
pub record CountLimits (P : ℕ) (row : Row) (k : ℕ) : Type 0 where
  pub month_total : P * one_before row k + (S - P) * row k + (S - 1) ≤ largest

-- … and of the row before the month of a ruin, at a level
pub record RuinLimits (income : ℕ) (severity : List ℕ) (tail P s : ℕ) : Type 0 where
  pub weight : ruin_weight severity tail (s + income) ≤ largest
  pub month_total : P * ruin_weight severity tail (s + income) + (S - 1) ≤ largest
