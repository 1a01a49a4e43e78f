-- The room that the program lends, for the contracts; src/space.rt has it for the code, and the proofs hold the two equal.
use Rattle.std.specs.Prelude.{ℕ, ◌+◌, ◌||◌, cond, ltb, eqb}
use Rattle.model.specs.Limits.{row_room, workspace_room, bounds_room}
use Rattle.test_vectors.specs.declared.record.Record.{Record}
use Rattle.test_vectors.specs.Records.{kind_number}

-- numbers more than any call needs
abbrev spare : ℕ
spare = 6

-- the most numbers of a row that a record may bring
abbrev pub row_capacity : ℕ
row_capacity = row_room + spare

-- the length of the row in use after a record that brings one: 0 where there is no room for it
unfoldable pub row_used : ℕ → ℕ → ℕ
row_used count room = cond (ltb row_capacity count || ltb room count) 0 count

-- the most bytes of a plan that a record may bring
abbrev pub byte_capacity : ℕ
byte_capacity = 2560

-- the most numbers of a workspace that a record may ask for
abbrev pub workspace_capacity : ℕ
workspace_capacity = workspace_room + spare

-- the most numbers of a lent row of bounds that a record may ask for
abbrev pub bounds_capacity : ℕ
bounds_capacity = bounds_room + spare

-- the length of the row in use after any record: another than a row's, of kind 0, leaves it
unfoldable pub used_after : Record → ℕ → ℕ → ℕ
used_after r room used = cond (eqb (kind_number r.kind) 0) (row_used r.length room) used
