-- Laws of the levels: the largest level grows by the income month by month.
use mathlib.Core.Path.{◌≡◌}
use Prim.Native.Nat.{ℕ, suc, ◌+◌, ◌≤◌}
use native.Mathlib.Nat.{mul-zero, mul-suc, mul-add, mul-le-mul_left}
use native.Mathlib.Omega.{arith}
use Rattle.model.specs.Levels.{largest_level}

-- after no months
pub level_start : (income u : ℕ) → largest_level income u 0 ≡ u
unfolding largest_level
level_start income u = omega (arith, mul-zero income)

-- a later month's largest level is not below an earlier one's
pub level_later : (income u t n : ℕ) → t ≤ n → largest_level income u t ≤ largest_level income u n
unfolding largest_level
level_later income u t n l = omega (arith, mul-le-mul_left income l)

-- a month more, from its income on
pub level_next : (income u n : ℕ) → largest_level income u (suc n) ≡ largest_level income (u + income) n
unfolding largest_level
level_next income u n = omega (arith, mul-suc income n)

-- from a level that is reached after r months, so many months more
pub reachable : (income u s r t n : ℕ) → s ≤ largest_level income u r → r + n ≤ t → largest_level income s n ≤ largest_level income u t
unfolding largest_level
reachable income u s r t n l m = omega (arith, mul-le-mul_left income m, mul-add income r n)

-- a fund that opens no lower is no lower
pub level_from : (income u v n : ℕ) → u ≤ v → (largest_level income u n ≤ largest_level income v n) × (v ≤ largest_level income v n)
unfolding largest_level
level_from income u v n l = (omega arith, omega arith)
