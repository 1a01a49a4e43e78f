-- Rows that rise with the level stay rising through a month with rounding left out.
use mathlib.Core.List.{List, [], ◌∷◌}
use Prim.Native.Nat.{ℕ, zero, suc, ◌+◌, ◌*◌, ◌-◌, ◌≤◌, zero-le}
use native.Mathlib.Nat.{le_refl, add-le-add, mul-le-mul_left}
use native.Mathlib.Omega.{arith}
use Rattle.model.specs.Scale.{S}
use Rattle.model.specs.MonthRule.{Row, claim_sum, exact_month}
use Rattle.model.proofs.Month.{claim_sum_none, claim_sum_ground, claim_sum_cons}

-- no level has a smaller value than one below it
abbrev pub Rising : Row → Type 0
Rising X = (r s : ℕ) → r ≤ s → X r ≤ X s

-- A claim from a higher level leads to a higher one by each size, and by more sizes above 0.
claim_sum_rises : (F : List ℕ) (Y : Row) → Rising Y → Rising (claim_sum F Y)
claim_sum_rises [] Y h r s l = rw (claim_sum_none Y r) zero-le
claim_sum_rises (f ∷ F) Y h zero s l = rw (claim_sum_ground (f ∷ F) Y 0 zero-le) zero-le
claim_sum_rises (f ∷ F) Y h (suc zero) s l = rw (claim_sum_ground (f ∷ F) Y 1 (le_refl 1)) zero-le
claim_sum_rises (f ∷ F) Y h (suc (suc r)) zero l = absurd (omega arith)
claim_sum_rises (f ∷ F) Y h (suc (suc r)) (suc zero) l = absurd (omega arith)
claim_sum_rises (f ∷ F) Y h (suc (suc r)) (suc (suc s)) l =
    rw (claim_sum_cons f F Y r, claim_sum_cons f F Y s)
    (add-le-add (mul-le-mul_left f (h (suc r) (suc s) (omega arith))) (claim_sum_rises F Y h (suc r) (suc s) (omega arith)))

-- A month keeps income rising rows rising: with rounding left out …
pub exact_month_rises : (income : ℕ) (F : List ℕ) (P : ℕ) (X Y : Row) → Rising X → Rising Y → Rising (exact_month income F P X Y)
unfolding exact_month
exact_month_rises income F P X Y hX hY r s l =
    add-le-add (mul-le-mul_left ((S - P) * S) (hX (r + income) (s + income) (omega arith)))
    (mul-le-mul_left P (claim_sum_rises F Y hY (r + income) (s + income) (omega arith)))
