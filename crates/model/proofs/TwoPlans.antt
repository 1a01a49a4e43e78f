-- Document 02, of every pair of accepted plans: "How far a chance can move the result", and what a larger opening does.
use mathlib.Core.Path.{◌≡◌, refl, sym, ap}
use mathlib.Core.List.{List}
use Prim.Native.Nat.{ℕ, ◌+◌, ◌*◌, ◌^◌, ◌≤◌, ◌<◌}
use native.Mathlib.Nat.{add-mul, le_refl, le_of_mul-le-mul_right, le-max_left, le-max_right}
use native.Mathlib.Omega.{arith}
use Rattle.model.specs.declared.Head.{Head}
use Rattle.model.specs.declared.Rounding.{Rounding}
use Rattle.model.specs.declared.Question.{Question}
use Rattle.model.specs.declared.Question.TheVariants.{Survive}
use Rattle.model.specs.Scale.{S}
use Rattle.model.specs.Plan.{Plan, plan_of, horizon}
use Rattle.model.specs.Exact.{exact, exact_ruin, exact_count}
use Rattle.model.specs.MonthRule.{Row, Month, month, exact_month, kept, value, whole, rule_of, last_of, claims_of, opening_allowed}
use Rattle.model.specs.CountRow.{count_row}
use Rattle.model.specs.Bounds.{bound, lower, ruin_bound, ruin_lower, count_lower, live_months, months_to, Encloses}
use Rattle.model.specs.Sensitivity.{OnlyChancesDiffer, OnlyOpeningGrows, distance, chances_apart, Moves}
use Rattle.model.specs.Refusal.{Accepted}
use Rattle.model.proofs.Distances.{distance_le, within_distance, apart_comm}
use Rattle.model.proofs.Moves.{Near}
use Rattle.model.proofs.Month.{scale_positive}
use Rattle.model.proofs.Rising.{Rising, exact_month_rises}
use Rattle.model.proofs.RisingMonths.{month_rises, values_rise}
use Rattle.model.proofs.Theorems.{positive, unrounded, enclosure, count_enclosure, ruin_enclosure}
use Rattle.model.proofs.PlansNear.{Pair, turned, exact_near, bound_near, exact_count_near, count_row_near, exact_ruin_near, ruin_bound_near}

-- Numbers that enclose two exact answers, each within its gap, are no further apart than these and the larger gap.
pub enclosed_move :
    {p p' : Plan} {months months' : List ℕ} {W W' low low' high high' : ℕ} → horizon p ≡ horizon p' →
    Encloses p months W low high → Encloses p' months' W' low' high' →
    distance (W * S) (W' * S) ≤ chances_apart months months' * S ^ (2 * horizon p) → Moves p months months' W W' low low'
enclosed_move {p} {p'} {months} {months'} {W} {W'} {low} {low'} {high} {high'} same e e' near =
    record {
      exact = near;
      lower =
          distance_le
          (omega (arith, one_side low high' (W * S) (W' * S) e.below (rw (← same) at e'.above) sides.0, e'.gap, le-max_right (live_months months) (live_months months')))
          (omega (arith, one_side low' high (W' * S) (W * S) (rw (← same) at e'.below) e.above sides.1, e.gap, le-max_left (live_months months) (live_months months')));
    }
  where
    c : ℕ
    c = chances_apart months months'

    D : ℕ
    D = S ^ (2 * horizon p)

    sides : (W * S ≤ W' * S + c * D) × (W' * S ≤ W * S + c * D)
    sides = within_distance (W * S) (W' * S) (c * D) near

    one_side : (a b x y : ℕ) → a * D ≤ x → y ≤ b * D → x ≤ y + c * D → a ≤ b + c
    one_side a b x y below above l = le_of_mul-le-mul_right (omega (arith, add-mul b c D)) (positive (2 * horizon p))

-- two numbers that are near each other both ways
both_ways : {c c' D D' a a' : ℕ} → c' ≡ c → D' ≡ D → Near c D a a' → Near c' D' a' a → distance a a' ≤ c * D
both_ways {c} {c'} {D} {D'} same_c same_D n n' = distance_le n.apart (rw (same_c, same_D) at n'.apart)

module _
    (h : Head)
    (row : List ℕ)
    (accepted : Accepted h row)
    (h' : Head)
    (row' : List ℕ)
    (accepted' : Accepted h' row')
    (only_chances : OnlyChancesDiffer (plan_of h row) (plan_of h' row'))
  where
    abbrev p : Plan
    p = plan_of h row

    abbrev p' : Plan
    p' = plan_of h' row'

    pair : Pair h row h' row'
    pair = record { accepted = accepted; accepted' = accepted'; only = only_chances }

    back : Pair h' row' h row
    back = turned pair

    -- what is near both ways, at the scale of the plan's months
    apart_both :
        {c c' a a' : ℕ} → c' ≡ c → Near c (S ^ (2 * horizon p)) a a' → Near c' (S ^ (2 * horizon p')) a' a → distance a a' ≤ c * S ^ (2 * horizon p)
    apart_both same = both_ways same (ap (λ (n : ℕ). S ^ (2 * n)) (sym only_chances.months))

    bounds_both : {c c' a a' : ℕ} → c' ≡ c → Near c 1 a a' → Near c' 1 a' a → distance a a' ≤ c
    bounds_both {c} same n n' = omega (arith, both_ways same refl n n')

    -- "the exact answers to the same question differ by at most the sum over months of the differences of the chances", and the lower bounds by at most that sum and
    -- "the larger of the two plans' numbers of months with a chance not zero"
    pub question_moves : (q : Question) → Moves p p.chances p'.chances (exact p q) (exact p' q) (lower p q) (lower p' q)
    question_moves q =
        enclosed_move only_chances.months (enclosure h row accepted q) (enclosure h' row' accepted' q)
        (apart_both (apart_comm p'.chances p.chances)
        (exact_near pair q) (exact_near back q))

    -- both bounds keep to the sum alone: a move of whole parts is not rounded
    pub bounds_move : (round : Rounding) (q : Question) → distance (bound round p q) (bound round p' q) ≤ chances_apart p.chances p'.chances
    bounds_move round q =
        bounds_both (apart_comm p'.chances p.chances)
        (bound_near pair round q) (bound_near back round q)

    -- the same at each place of the count row …
    pub count_moves :
        (k : ℕ) → Moves p p.chances p'.chances (exact_count p k) (exact_count p' k) (count_lower p k) (count_lower p' k)
    count_moves k =
        enclosed_move only_chances.months (count_enclosure h row accepted k) (count_enclosure h' row' accepted' k)
        (apart_both (apart_comm p'.chances p.chances)
        (exact_count_near pair k) (exact_count_near back k))

    pub count_bounds_move :
        (round : Rounding) (k : ℕ) → distance (count_row round p.chances k) (count_row round p'.chances k) ≤ chances_apart p.chances p'.chances
    count_bounds_move round k =
        bounds_both (apart_comm p'.chances p.chances)
        (count_row_near pair round k) (count_row_near back round k)

    -- … and of ruin in a month, where months 1 to t count
    module _ (t : ℕ) (some : 0 < t) (l : t ≤ horizon p) where
      inside : t ≤ horizon p'
      inside = omega (arith, only_chances.months)

      pub ruin_moves : Moves p (months_to p t) (months_to p' t) (exact_ruin p t) (exact_ruin p' t) (ruin_lower p t) (ruin_lower p' t)
      ruin_moves =
          enclosed_move only_chances.months (ruin_enclosure h row accepted t some l) (ruin_enclosure h' row' accepted' t some inside)
          (apart_both (apart_comm (months_to p' t) (months_to p t))
          (exact_ruin_near pair t some l) (exact_ruin_near back t some inside))

      pub ruin_bounds_move : (round : Rounding) → distance (ruin_bound round p t) (ruin_bound round p' t) ≤ chances_apart (months_to p t) (months_to p' t)
      ruin_bounds_move round =
          bounds_both (apart_comm (months_to p' t) (months_to p t))
          (ruin_bound_near pair round t some l) (ruin_bound_near back round t some inside)

-- "neither survival bound falls when the opening grows": V_0 of survive is one rising row, which both openings read
survival_rises_by :
    (p p' : Plan) → OnlyOpeningGrows p p' → (m : ℕ → List ℕ → Month) → ((income : ℕ) (F : List ℕ) (P : ℕ) (X Y : Row) → Rising X → Rising Y → Rising (m income F P X Y)) →
    value (m p.income p.severity) p Survive ≤ value (m p'.income p'.severity) p' Survive
unfolding value kept opening_allowed rule_of last_of
survival_rises_by p p' grows m month_keeps =
    rw (← grows.income, ← grows.severity, ← grows.chances)
    (values_rise (m p.income p.severity) (month_keeps p.income p.severity) (rule_of Survive) (λ r s l e. refl) whole (λ k r s l. le_refl S) p.chances (claims_of Survive)
    p.opening p'.opening grows.opening)

pub survival_rises : (p p' : Plan) → OnlyOpeningGrows p p' → (round : Rounding) → bound round p Survive ≤ bound round p' Survive
unfolding bound
survival_rises p p' grows round = survival_rises_by p p' grows (month round) (month_rises round)

-- nor does the exact chance, of accepted plans: with no income the month rule would not be that of the histories
pub exact_survival_rises :
    (h : Head) (row : List ℕ) → Accepted h row → (h' : Head) (row' : List ℕ) → Accepted h' row' → OnlyOpeningGrows (plan_of h row) (plan_of h' row') →
    exact (plan_of h row) Survive ≤ exact (plan_of h' row') Survive
exact_survival_rises h row accepted h' row' accepted' grows =
    le_of_mul-le-mul_right
    (rw (← unrounded h row accepted Survive, ← unrounded h' row' accepted' Survive)
    (survival_rises_by (plan_of h row) (plan_of h' row') grows exact_month exact_month_rises)) scale_positive
