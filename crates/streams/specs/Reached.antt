-- How far a stream was read or written, and what the system answered last.
use Rattle.std.specs.Prelude.{ℕ, ◌≤◌, ◌<◌, ◌≡◌, T, ℤ, pos, negsuc, Option, None, Some, Result, Ok, Err}
use Rattle.std.specs.Int.Signed.{non_neg}
use Rattle.streams.specs.declared.Reach.{Reach}

-- what a call that is handed n bytes may answer: -1, or how many bytes it moved, at most n
abbrev pub Moved : ℕ → ℤ → Type 0
Moved n (pos k) = k ≤ n
Moved n (negsuc k) = k ≡ 0

-- n of size bytes were moved, the system's last answer being z: -1, or how many it moved, which are among the n, and 0 where it was asked nothing. Reading
-- and writing end short of the size only where the system moves nothing more, and where all was moved no call failed.
pub record Reached (size n : ℕ) (z : ℤ) : Type 0 where
  pub within : n ≤ size
  pub last : Moved n z
  pub short : n < size → Moved 0 z
  pub full : n ≡ size → T (non_neg z)

-- the system's last answer as one number, -1 for a failure
abbrev pub answer_of : Option ℕ → ℤ
answer_of None = negsuc 0
answer_of (Some k) = pos k

-- how far a stream was moved, whether that went well or not
abbrev pub reach_of : Result Reach Reach → Reach
reach_of (Ok r) = r
reach_of (Err r) = r
