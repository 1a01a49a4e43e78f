-- Numbers that come in bytes.
use Rattle.std.specs.Prelude.{ℕ, ◌+◌, ◌*◌}
use mathlib.Core.List.{List, foldl}

-- the number that bytes stand for, most significant first
unfoldable pub big_endian : List ℕ → ℕ
big_endian bytes = foldl (λ x b. x * 256 + b) 0 bytes
