-- How far a value moves when chances do: from one month to all months, for the month rule, the count row and the row before a ruin, exact and rounded.
use mathlib.Core.Path.{◌≡◌, ap}
use mathlib.Core.List.{List, [], ◌∷◌}
use Prim.Native.Nat.{ℕ, suc, ◌+◌, ◌*◌, ◌-◌, ◌≤◌}
use native.Mathlib.Nat.{add_assoc, add_comm, add-suc, suc-add, add-zero, mul_assoc, mul_comm, mul_left_comm, mul-one, mul-zero, zero-add, mul-le-mul_right, le_trans}
use native.Mathlib.Omega.{arith}
use lib.ListN.{length, get_or}
use Rattle.model.specs.declared.Rounding.{Rounding}
use Rattle.model.specs.Scale.{S}
use Rattle.model.specs.Sums.{total}
use Rattle.model.specs.MonthRule.{Row, Month, Rule, claim_sum, month, exact_month, values}
use Rattle.model.specs.CountRow.{one_before, count_month, exact_count_month, after_months}
use Rattle.model.specs.Sensitivity.{distance, chances_apart}
use Rattle.model.proofs.Distances.{apart_more, apart_none}
use Rattle.model.proofs.Month.{scale_positive, square_positive, claim_sum_le, claim_sum_bound}
use Rattle.model.proofs.Values.{values_rel_pair}
use Rattle.model.proofs.Counts.{before_rel}
use Rattle.model.proofs.Moves.{Near, near_nothing, near_times, near_quotient, mixture_near}

-- That a month of the month rule does so, from rows in parts of D to a row in parts of D'.
unfoldable pub Moving : Month → ℕ → ℕ → Type 0
Moving m D D' =
    (P P' : ℕ) → P ≤ S → P' ≤ S → (X Y X' Y' : Row) (g : ℕ) → ((s : ℕ) → Near g D (X s) (X' s)) → ((s : ℕ) → Near g D (Y s) (Y' s)) →
    (s : ℕ) → Near (distance P P' + g) D' (m P X Y s) (m P' X' Y' s)

module _ (income : ℕ) (F : List ℕ) (hF : total F ≤ S) where
  claim_sum_near : (D : ℕ) (Y Y' : Row) (g : ℕ) → ((s : ℕ) → Near g D (Y s) (Y' s)) → (s : ℕ) → Near g (S * D) (claim_sum F Y s) (claim_sum F Y' s)
  claim_sum_near D Y Y' g h s =
      record {
        apart = omega (arith, claim_sum_le F hF Y Y' (g * D) (λ r. (h r).apart) s, mul_left_comm S g D);
        fits = le_trans (claim_sum_bound F Y' (S * D) s (λ r l. (h r).fits)) (mul-le-mul_right (S * D) hF);
      }

  -- the exact month at any scale …
  pub exact_moving : (D : ℕ) → Moving (exact_month income F) D (S * (S * D))
  unfolding Moving exact_month
  exact_moving D P P' hP hP' X Y X' Y' g hX hY s =
      rw (mul_assoc (S - P) S (X (s + income)), mul_assoc (S - P') S (X' (s + income)))
      (mixture_near P P' hP hP' (near_times S (hX (s + income))) (claim_sum_near D Y Y' g hY (s + income)))

  -- … and the rounded month, in parts of S before and after
  pub rounded_moving : (round : Rounding) → Moving (month round income F) 1 1
  unfolding Moving month
  rounded_moving round P P' hP hP' X Y X' Y' g hX hY s =
      near_quotient round (S * S) square_positive
      (rw (ap (λ (n : ℕ). S * n) (mul-one S)) at (exact_moving 1 P P' hP hP' X Y X' Y' g hX hY s))

-- So all months move a value by at most the sum of what their chances move by.
pub values_move :
    (m : Month) (D : ℕ → ℕ) → ((n : ℕ) → Moving m (D n) (D (suc n))) →
    (q : Rule) (last last' : ℕ → Row) (g : ℕ) → ((k s : ℕ) → Near g (D 0) (last k s) (last' k s)) →
    (Ps Ps' : List ℕ) → length Ps ≡ length Ps' → ((i : ℕ) → get_or Ps i 0 ≤ S) → ((i : ℕ) → get_or Ps' i 0 ≤ S) →
    (k s : ℕ) → Near (chances_apart Ps Ps' + g) (D (length Ps)) (values m q last Ps k s) (values m q last' Ps' k s)
unfolding Moving
values_move m D moving q last last' g hl Ps Ps' e hP hP' =
    values_rel_pair (λ Qs Qs' a a'. Near (chances_apart Qs Qs' + g) (D (length Qs)) a a') (λ P P'. (P ≤ S) × (P' ≤ S)) m m q last last'
    (λ Qs Qs'. near_nothing (chances_apart Qs Qs' + g) (D (length Qs)))
    (λ k s. rw (apart_none, zero-add g) (hl k s))
    (λ P P' Qs Qs' fit X Y X' Y' hx hy s.
    rw (apart_more P P' Qs Qs', add_assoc (distance P P') (chances_apart Qs Qs') g)
    (moving (length Qs) P P' fit.0 fit.1 X Y X' Y' (chances_apart Qs Qs' + g) hx hy s))
    Ps Ps' e (λ i. (hP i, hP' i))

-- The same of a month of the count row, …
unfoldable pub CountMoving : (ℕ → Row → Row) → ℕ → ℕ → Type 0
CountMoving m D D' =
    (P P' : ℕ) → P ≤ S → P' ≤ S → (X X' : Row) (g : ℕ) → ((k : ℕ) → Near g D (X k) (X' k)) → (k : ℕ) → Near (distance P P' + g) D' (m P X k) (m P' X' k)

count_parts_near :
    (D P P' : ℕ) → P ≤ S → P' ≤ S → (X X' : Row) (g : ℕ) → ((k : ℕ) → Near g D (X k) (X' k)) →
    (k : ℕ) → Near (distance P P' + g) (S * D) (P * one_before X k + (S - P) * X k) (P' * one_before X' k + (S - P') * X' k)
count_parts_near D P P' hP hP' X X' g h k =
    rw (add_comm (P * one_before X k) ((S - P) * X k), add_comm (P' * one_before X' k) ((S - P') * X' k))
    (mixture_near P P' hP hP' (h k) (before_rel (Near g D) (near_nothing g D) X X' h k))

pub exact_count_moving : (D : ℕ) → CountMoving exact_count_month D (S * (S * D))
unfolding CountMoving exact_count_month
exact_count_moving D P P' hP hP' X X' g h k =
    rw (mul_comm (P * one_before X k + (S - P) * X k) S, mul_comm (P' * one_before X' k + (S - P') * X' k) S)
    (near_times S (count_parts_near D P P' hP hP' X X' g h k))

pub rounded_count_moving : (round : Rounding) → CountMoving (count_month round) 1 1
unfolding CountMoving count_month
rounded_count_moving round P P' hP hP' X X' g h k =
    near_quotient round S scale_positive (rw (mul-one S) at (count_parts_near 1 P P' hP hP' X X' g h k))

-- … and of all its months, …
pub after_months_move :
    (m : ℕ → Row → Row) (D : ℕ → ℕ) → ((n : ℕ) → CountMoving m (D n) (D (suc n))) →
    (Ps Ps' : List ℕ) → length Ps ≡ length Ps' → ((i : ℕ) → get_or Ps i 0 ≤ S) → ((i : ℕ) → get_or Ps' i 0 ≤ S) →
    (n : ℕ) (X X' : Row) (g : ℕ) → ((k : ℕ) → Near g (D n) (X k) (X' k)) →
    (k : ℕ) → Near (chances_apart Ps Ps' + g) (D (n + length Ps)) (after_months m Ps X k) (after_months m Ps' X' k)
unfolding after_months CountMoving
after_months_move m D moving [] [] e hP hP' n X X' g h k = rw (apart_none, zero-add g, add-zero n) (h k)
after_months_move m D moving [] (P' ∷ Ps') e hP hP' n X X' g h k = absurd (omega arith)
after_months_move m D moving (P ∷ Ps) [] e hP hP' n X X' g h k = absurd (omega arith)
after_months_move m D moving (P ∷ Ps) (P' ∷ Ps') e hP hP' n X X' g h k =
    rw (sums, add-suc n (length Ps), ← suc-add n (length Ps))
    (after_months_move m D moving Ps Ps' (omega arith) (λ i. hP (suc i)) (λ i. hP' (suc i)) (suc n) (m P X) (m P' X') (distance P P' + g)
    (moving n P P' (hP 0) (hP' 0) X X' g h) k)
  where
    sums : chances_apart (P ∷ Ps) (P' ∷ Ps') + g ≡ chances_apart Ps Ps' + (distance P P' + g)
    sums = omega (arith, apart_more P P' Ps Ps')

-- … and of the row before a ruin, where no claim leaves nothing.
pub ruin_moving : (P P' w : ℕ) → P ≤ S → P' ≤ S → w ≤ S → Near (distance P P') S (P * w) (P' * w)
ruin_moving P P' w hP hP' fits =
    let same : Near 0 1 w w = record { apart = omega arith; fits = rw mul-one fits } in
    simp (mul-zero, zero-add, add-zero, mul-one) at (mixture_near P P' hP hP' (near_nothing 0 1) same)
