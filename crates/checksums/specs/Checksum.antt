-- The checksum of lent numbers.
use Rattle.std.specs.Prelude.{ℕ, ◌+◌, ◌*◌, ◌%◌}
use mathlib.Core.List.{List, foldl}

abbrev pub modulus : ℕ
modulus = 1000000007

-- with one more number
abbrev pub more : ℕ → ℕ → ℕ
more sum x = (sum % modulus * 31 + x) % modulus

-- of all numbers, in their order
unfoldable pub checksum : List ℕ → ℕ
checksum xs = foldl more 0 xs
