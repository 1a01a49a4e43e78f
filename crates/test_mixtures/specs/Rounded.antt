-- A chance as a decimal number with 7 places.
use Rattle.std.specs.Prelude.{ℕ, ◌+◌, ◌*◌, ◌/◌}
use Rattle.model.specs.Scale.{S}

-- parts of S in ten-millionths, to the nearest
unfoldable pub ten_millionths : ℕ → ℕ
ten_millionths x = (x * 10000000 + S / 2) / S
