-- Laws of reading and writing on, call by call. Assumes nothing.
use Prim.Native.Nat.{ℕ, ◌≤◌}
use lib.Dec.{T}
use lib.IntN.{ℤ}
use lib.Signed.{non_neg}
use Rattle.streams.specs.Reached.{Moved}

-- The last answer moved some of the n bytes, or nothing was asked yet.
pub record Going (size n : ℕ) (z : ℤ) : Type 0 where
  pub within : n ≤ size
  pub last : Moved n z
  pub went : T (non_neg z)
