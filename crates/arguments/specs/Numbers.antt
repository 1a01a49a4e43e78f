-- A number as it is written in an argument: in decimal, "a target from 1 to S", a number of claims, a level.
use Rattle.std.specs.Prelude.{ℕ, ◌+◌, ◌*◌, ◌-◌, ◌^◌, min, Bool, true, false, not, ◌||◌, cond, eqb, ltb, length, Option, Some, None}
use Prim.Native.Char.{code}
use mathlib.Core.List.{List, foldl}
use Rattle.model.specs.Sums.{any}

-- a byte that is none of the digits 0 to 9
unfoldable pub not_digit : ℕ → Bool
not_digit byte = ltb byte (code "0") || ltb (code "9") byte

-- a digit or more, and nothing else
unfoldable pub is_number : List ℕ → Bool
is_number bytes = not (eqb (length bytes) 0 || any not_digit bytes)

-- the number that digits spell, the most significant first
abbrev pub with_digit : ℕ → ℕ → ℕ
with_digit n byte = n * 10 + (byte - code "0")

unfoldable pub spelled : List ℕ → ℕ
spelled bytes = foldl with_digit 0 bytes

-- the largest number of 32 bits, far above S and every limit of a question
abbrev pub most_number : ℕ
most_number = 2 ^ 32 - 1

-- A number, and whether it could be read; 0 where it could not.
pub record Number : Type 0 where
  pub readable : Bool
  pub value : ℕ

-- a number as the code answers it
abbrev pub number_told : Option ℕ → Number
number_told None = record { readable = false; value = 0 }
number_told (Some n) = record { readable = true; value = n }

-- the number of an argument: one too large for 32 bits is cut off there
unfoldable pub number_of : List ℕ → Number
number_of argument =
    cond (is_number argument)
    (record { readable = true; value = min (spelled argument) most_number })
    (record { readable = false; value = 0 })
