-- The room that the program lends, as in src/calls.rt; the proofs hold the two equal.
use Rattle.std.specs.Prelude.{ℕ, ◌+◌}
use Rattle.model.specs.Limits.{row_room}

abbrev pub row_capacity : ℕ
row_capacity = row_room + 6

abbrev pub byte_capacity : ℕ
byte_capacity = 1800
