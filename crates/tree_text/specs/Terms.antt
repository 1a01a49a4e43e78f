-- What the nodes of a small plan take, for the functions below the call.
use Rattle.std.specs.Prelude.{ℕ, ◌+◌, ◌≤◌, List, length, get_or}
use Rattle.model.specs.declared.Question.{Question}
use Rattle.model.specs.Limits.{max_small_months, max_small_opening, max_claims}
use Rattle.model.specs.Scale.{S}
use Rattle.model.specs.Sums.{total}
use Rattle.model.specs.MonthRule.{claims_of}

pub record SmallTerms (q : Question) (u : ℕ) (chances severity : List ℕ) (tail t : ℕ) : Type 0 where
  pub weights_fit : total severity + tail ≤ S
  pub chances_fit : (i : ℕ) → get_or chances i 0 ≤ S
  pub months_few : length chances ≤ max_small_months
  pub opening_low : u ≤ max_small_opening
  pub ended : t ≤ length chances
  pub claims_few : claims_of q ≤ max_claims
