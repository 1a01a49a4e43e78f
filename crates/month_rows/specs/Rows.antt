-- Rows of values in memory, and the words of the contracts on them.
use Rattle.std.specs.Prelude.{ℕ, zero, suc, ◌+◌, ◌<◌, ◌≤◌, ◌≡◌, Bool, ◌&&◌, cond, List, leb, ltb, get_or}
use Rattle.std.proofs.Math.Option.{Option, none, some}
use Rattle.model.specs.MonthRule.{Row}

-- a list as a row: the index is the place
abbrev pub at : List ℕ → Row
at xs i = get_or xs i 0

-- So many places from `from` on hold new values, and all others what they held.
pub record Replaced (from count : ℕ) (new : Row) (before after : List ℕ) : Type 0 where
  pub inside : (i : ℕ) → i < count → at after (from + i) ≡ new i
  pub earlier : (k : ℕ) → k < from → at after k ≡ at before k
  pub later : (k : ℕ) → from + count ≤ k → at after k ≡ at before k

-- the numbers from low on and below above
unfoldable pub between : ℕ → ℕ → ℕ → Bool
between low above s = leb low s && ltb s above

-- The claims left after one more claim. Where claims are not tallied there is one row, which every claim comes back to.
unfoldable pub after_claim_by : Bool → ℕ → Option ℕ
after_claim_by tallied zero = cond tallied none (some 0)
after_claim_by tallied (suc k) = some k

-- the sizes that a claim may have in the row with no claims left
unfoldable pub own_sizes : Bool → ℕ → ℕ
own_sizes tallied sizes = cond tallied 0 sizes
