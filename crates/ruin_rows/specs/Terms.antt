-- What a row before a month that may ruin is worked out from.
use Rattle.std.specs.Prelude.{ℕ, ◌+◌, ◌≤◌, List}
use Rattle.model.specs.Scale.{S}
use Rattle.model.specs.Sums.{total}

-- weights that add up to at most S together with over, and the month's chance
pub record RuinTerms (severity : List ℕ) (tail chance : ℕ) : Type 0 where
  pub weights_fit : total severity + tail ≤ S
  pub chance_fits : chance ≤ S
