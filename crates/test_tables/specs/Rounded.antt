-- The figures of source document 000's tables.
use Rattle.std.specs.Prelude.{ℕ, ◌+◌, ◌*◌, ◌/◌}
use Rattle.model.specs.Scale.{S}

-- parts of S in ten-thousandths, to the nearest
unfoldable pub ten_thousandths : ℕ → ℕ
ten_thousandths x = (x * 10000 + S / 2) / S
