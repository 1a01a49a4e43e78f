-- The count row, month by month.
use Rattle.std.specs.Prelude.{ℕ, zero, suc, ◌+◌, ◌*◌, ◌-◌, List, [], ◌∷◌}
use Rattle.model.specs.declared.Rounding.{Rounding}
use Rattle.model.specs.Scale.{S, quotient}
use Rattle.model.specs.MonthRule.{Row}

-- row(k − 1), and 0 before the row's first place
unfoldable pub one_before : Row → Row
one_before row zero = 0
one_before row (suc k) = row k

-- "Month t: (P_t × row(k − 1) + (S − P_t) × row(k)) divided by S, rounded once each way"
unfoldable pub count_month : Rounding → ℕ → Row → Row
count_month round P row k = quotient round (P * one_before row k + (S - P) * row k) S

-- the same "with rounding left out", multiplied by S × S as the month rule is
unfoldable pub exact_count_month : ℕ → Row → Row
exact_count_month P row k = (P * one_before row k + (S - P) * row k) * S

-- "After 0 months, S at k = 0."
unfoldable pub no_months : Row
no_months zero = S
no_months (suc k) = 0

-- the months in their order
unfoldable pub after_months : (ℕ → Row → Row) → List ℕ → Row → Row
after_months one_month [] row = row
after_months one_month (P ∷ later) row = after_months one_month later (one_month P row)

-- the count row of a plan's chances
unfoldable pub count_row : Rounding → List ℕ → Row
count_row round chances = after_months (count_month round) chances no_months

-- a row's values at the places 0 to n − 1, as they lie in memory
unfoldable pub tabulate : ℕ → Row → List ℕ
tabulate zero row = []
tabulate (suc n) row = row 0 ∷ tabulate n (λ k. row (suc k))
