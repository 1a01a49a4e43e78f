-- What the recursion takes, and what a claim leads to, for the functions below the call.
use Rattle.std.specs.Prelude.{ℕ, ◌+◌, ◌^◌, ◌≤◌, ◌<◌, List, length, get_or}
use Rattle.std.proofs.Math.Option.{Option, none, some}
use Rattle.model.specs.Scale.{S}
use Rattle.model.specs.Sums.{total}

-- the claims left to place after a claim, 0 where there may be none
unfoldable pub left_after : Option ℕ → ℕ
left_after none = 0
left_after (some k) = k

-- "a claim with none left adds 0": no size is followed then
unfoldable pub sizes_followed : Option ℕ → ℕ → ℕ
sizes_followed none sizes = 0
sizes_followed (some k) sizes = sizes

-- what the value of a level takes: weights and chances within S, and levels that fit a machine word
pub record Terms (severity chances : List ℕ) (level : ℕ) : Type 0 where
  pub weights_fit : total severity ≤ S
  pub chances_fit : (i : ℕ) → get_or chances i 0 ≤ S
  pub levels_fit : level + length chances < 2 ^ 64
