-- Parts of S, and quotients rounded either way.
use Rattle.std.specs.Prelude.{ℕ, ◌+◌, ◌-◌, ◌/◌, ◌^◌}
use Rattle.model.specs.declared.Rounding.{Rounding}
use Rattle.model.specs.declared.Rounding.TheVariants.{Down, Up}

-- "S = 2^30 = 1,073,741,824"
unfoldable pub S : ℕ
S = 2 ^ 30

-- x divided by d: the divisions "round down for the lower bound and up for the upper"
unfoldable pub quotient : Rounding → ℕ → ℕ → ℕ
quotient Down x d = x / d
quotient Up x d = (x + (d - 1)) / d
