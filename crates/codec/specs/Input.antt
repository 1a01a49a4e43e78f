-- What a program takes in.
use Rattle.std.specs.Prelude.{ℕ}

-- the bytes of the buffer into which a program reads a plan; it reads no further, whatever follows
abbrev pub input_room : ℕ
input_room = 4096
