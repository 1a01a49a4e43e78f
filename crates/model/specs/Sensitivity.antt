-- What document 02 says of two plans: "How far a chance can move the result", and what a larger opening does.
use Rattle.std.specs.Prelude.{ℕ, ◌+◌, ◌*◌, ◌-◌, ◌^◌, ◌≤◌, min, max, ◌≡◌}
use mathlib.Core.List.{List, zip_with}
use Rattle.model.specs.Scale.{S}
use Rattle.model.specs.Sums.{total}
use Rattle.model.specs.Plan.{Plan, horizon}
use Rattle.model.specs.Bounds.{live_months}

-- "two accepted plans that differ only in claim chances": the same months, opening, income, weights (so sizes too) and over
pub record OnlyChancesDiffer (p p' : Plan) : Type 0 where
  pub months : horizon p ≡ horizon p'
  pub opening : p.opening ≡ p'.opening
  pub income : p.income ≡ p'.income
  pub severity : p.severity ≡ p'.severity
  pub tail : p.tail ≡ p'.tail

-- "accepted plans that differ only in the opening", which grows from the first to the second
pub record OnlyOpeningGrows (p p' : Plan) : Type 0 where
  pub opening : p.opening ≤ p'.opening
  pub income : p.income ≡ p'.income
  pub chances : p.chances ≡ p'.chances
  pub severity : p.severity ≡ p'.severity
  pub tail : p.tail ≡ p'.tail

-- a difference: the larger of two numbers less the smaller
unfoldable pub distance : ℕ → ℕ → ℕ
distance a b = max a b - min a b

-- "the sum over months of the differences of the chances", month by month
unfoldable pub chances_apart : List ℕ → List ℕ → ℕ
chances_apart chances chances' = total (zip_with distance chances chances')

-- What two plans' answers to the same question keep to: their weights W and W' of histories, and their lower bounds low and low'. As in `Encloses`, the
-- months that count are all of the plan's for a question and for a place of the count row, months 1 to t for ruin in month t.
pub record Moves (p : Plan) (months months' : List ℕ) (W W' low low' : ℕ) : Type 0 where
  -- "the exact answers to the same question differ by at most the sum over months of the differences of the chances, in parts of S"
  pub exact : distance (W * S) (W' * S) ≤ chances_apart months months' * S ^ (2 * horizon p)
  -- "The lower bounds differ by at most that sum plus the larger of the two plans' numbers of months with a chance not zero."
  pub lower : distance low low' ≤ chances_apart months months' + max (live_months months) (live_months months')
