-- Rows that rise with the level stay rising through a month, rounded either way, and so through all months.
use mathlib.Core.Path.{◌≡◌, refl}
use mathlib.Core.Bool.{Bool, true, false, cond}
use mathlib.Core.List.{List, [], ◌∷◌}
use mathlib.Core.Option.{Option, none, some}
use Prim.Native.Nat.{ℕ, ◌*◌, ◌≤◌, zero-le}
use native.Mathlib.Omega.{arith}
use Rattle.model.specs.declared.Rounding.{Rounding}
use Rattle.model.specs.Scale.{S}
use Rattle.model.specs.MonthRule.{Row, Month, Rule, month, exact_month, kept, claimed_row, month_back, values}
use Rattle.model.proofs.Quotients.{quotient_moves}
use Rattle.model.proofs.Month.{square_positive}
use Rattle.model.proofs.Rising.{Rising, exact_month_rises}

-- A month keeps rising rows rising where it is rounded either way, too.
pub month_rises : (round : Rounding) (income : ℕ) (F : List ℕ) (P : ℕ) (X Y : Row) → Rising X → Rising Y → Rising (month round income F P X Y)
unfolding month
month_rises round income F P X Y hX hY r s l =
    omega (
      arith,
      quotient_moves round (exact_month income F P X Y r) (exact_month income F P X Y s) (S * S) 0 square_positive
          (omega (arith, exact_month_rises income F P X Y hX hY r s l)),
    )

-- So do all months, where the rule forbids no level above one that it allows.
module _
    (m : Month)
    (month_keeps : (P : ℕ) (X Y : Row) → Rising X → Rising Y → Rising (m P X Y))
    (q : Rule)
    (upward : (r s : ℕ) → r ≤ s → q.allowed r ≡ true → q.allowed s ≡ true)
    (last : ℕ → Row)
    (last_rises : (k : ℕ) → Rising (last k))
  where
    kept_rises : (X : Row) → Rising X → Rising (kept q.allowed X)
    unfolding kept
    kept_rises X h r s l = go (q.allowed r) (q.allowed s) (upward r s l)
      where
        go : (a b : Bool) → (a ≡ true → b ≡ true) → cond a (X r) 0 ≤ cond b (X s) 0
        go true b up = rw (up refl) (h r s l)
        go false b up = zero-le

    claimed_rises : (X : ℕ → Row) → ((k : ℕ) → Rising (X k)) → (o : Option ℕ) → Rising (claimed_row X o)
    unfolding claimed_row
    claimed_rises X h none r s l = zero-le
    claimed_rises X h (some k) r s l = h k r s l

    month_back_rises : (P : ℕ) (N : ℕ → Row) → ((k : ℕ) → Rising (N k)) → (k : ℕ) → Rising (month_back m q P N k)
    unfolding month_back
    month_back_rises P N h k = month_keeps P _ _ (rows k) (claimed_rises (λ j. kept q.allowed (N j)) rows (q.after_claim k))
      where
        rows : (j : ℕ) → Rising (kept q.allowed (N j))
        rows j = kept_rises (N j) (h j)

    pub values_rise : (Ps : List ℕ) (k : ℕ) → Rising (values m q last Ps k)
    unfolding values
    values_rise [] k = last_rises k
    values_rise (P ∷ Ps) k = month_back_rises P (values m q last Ps) (values_rise Ps) k
