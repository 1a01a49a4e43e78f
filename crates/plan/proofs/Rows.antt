-- The weights at a row's end.
use Prim.Native.Nat.{ℕ, zero, suc, ◌+◌}
use mathlib.Core.Path.{◌≡◌}
use mathlib.Core.List.{List, [], ◌∷◌}
use native.Mathlib.Omega.{arith}
use lib.ListN.{length, get_or, take}
use Rattle.model.specs.Sums.{total}

-- all but the last number, and the last
pub total_last : (xs : List ℕ) (m : ℕ) → length xs ≡ suc m → total (take m xs) + get_or xs m 0 ≡ total xs
unfolding total
total_last [] m e = absurd (omega (arith, e))
total_last (x ∷ []) zero e = omega arith
total_last (x ∷ y ∷ ys) zero e = absurd (omega (arith, e))
total_last (x ∷ xs) (suc m) e = omega (arith, total_last xs m (omega (arith, e)))
