-- The row that follows the head in plan bytes.
use Rattle.std.specs.Prelude.{ℕ, ◌+◌, ◌*◌, ◌≤◌, List, length}
use Rattle.model.specs.Limits.{row_room}
use Rattle.model.specs.Format.{number_width, head_bits}

-- A row of so many numbers is no longer than a plan's can be, and lies within the bytes.
pub record RowWithin (bytes : List ℕ) (count : ℕ) : Type 0 where
  pub fits : count ≤ row_room
  pub inside : head_bits + number_width * count ≤ 8 * length bytes
