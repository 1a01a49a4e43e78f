-- Values in memory.
use Rattle.std.specs.Prelude.{ℕ, ◌-◌, ◌≤◌, List, get_or}
use Rattle.model.specs.Scale.{S}
use Rattle.model.specs.MonthRule.{Row}

-- A list as a row of levels. The place is what has been paid in claims: place i holds the level i below the largest, `top`.
abbrev pub from_top : ℕ → List ℕ → Row
from_top top xs s = get_or xs (top - s) 0

-- every number is at most S
pub record Parts (xs : List ℕ) : Type 0 where
  pub each : (k : ℕ) → get_or xs k 0 ≤ S
