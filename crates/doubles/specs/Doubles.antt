-- Doubles as chances and weights, in the library's own account of IEEE 754 binary64: its values, its operations, and a value's size as a fraction
-- of two whole numbers, `num` / `den`.
use Rattle.std.specs.Prelude.{ℕ, ◌*◌, ◌/◌, Bool, false, ◌&&◌, pos, Float}
use Rattle.std.specs.Float.{fin}
use Rattle.std.specs.Float.Ieee.{le}
use Rattle.std.specs.Float.Ieee.Positive.{num, den}
use Rattle.model.specs.Scale.{S}

-- the doubles 0, 1 and 2^30
abbrev pub nought : Float
nought = fin false 0 (pos 0)

abbrev pub one : Float
one = fin false 1 (pos 0)

abbrev pub scale : Float
scale = fin false 1 (pos 30)

-- whether a double lies in 0 to 1. "Minus zero counts as zero", as the comparisons of IEEE 754 have it.
unfoldable pub within : Float → Bool
within x = le nought x && le x one

-- "A double becomes parts of S by an exact product with 2^30, then rounding down." Every double that does lies in 0 to 1, so its sign is only that of a
-- zero; a NaN or an infinity, which never does, would count as 0.
unfoldable pub parts : Float → ℕ
parts x = num x * S / den x
