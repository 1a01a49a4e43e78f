-- The room that the program lends, for the contracts; src/space.rt has it for the code, and the proofs hold the two equal.
use Rattle.std.specs.Prelude.{ℕ, ◌+◌}
use Rattle.model.specs.Limits.{rows_room, workspace_room}

-- numbers more than any call needs
abbrev spare : ℕ
spare = 6

-- the most numbers of the lent row that a record may bring
abbrev pub row_capacity : ℕ
row_capacity = rows_room + spare

-- the most numbers of a workspace that a record may ask for
abbrev pub workspace_capacity : ℕ
workspace_capacity = workspace_room + spare

-- the most bytes of a mix that a record may bring, which hold every row too
abbrev pub byte_capacity : ℕ
byte_capacity = 16384
