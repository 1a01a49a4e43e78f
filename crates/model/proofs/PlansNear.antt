-- How near the answers of two accepted plans are that differ only in their chances, one way: for each question, place of the count row and month of ruin.
use mathlib.Core.Path.{◌≡◌, refl, sym, ◌∙◌, ap, ap₂}
use mathlib.Core.List.{List, []}
use Prim.Native.Nat.{ℕ, suc, ◌+◌, ◌*◌, ◌-◌, ◌^◌, ◌≤◌, ◌<◌}
use native.Mathlib.Nat.{mul_assoc, mul_comm, mul-one, add-zero, zero-add, one-mul, pow-zero}
use native.Mathlib.Omega.{arith}
use lib.ListN.{length, get_or, take}
use lib.Seq.{length-take-le}
use Rattle.model.specs.declared.Head.{Head}
use Rattle.model.specs.declared.Rounding.{Rounding}
use Rattle.model.specs.declared.Question.{Question}
use Rattle.model.specs.declared.Question.TheVariants.{Survive}
use Rattle.model.specs.Scale.{S}
use Rattle.model.specs.Sums.{total}
use Rattle.model.specs.Plan.{Plan, plan_of, horizon, nth}
use Rattle.model.specs.Exact.{exact, exact_ruin, exact_count}
use Rattle.model.specs.MonthRule.{Row, Month, month, exact_month, value, rule_of, last_of, claims_of, opening_allowed, ruin_weight, ruin_row, carried_back}
use Rattle.model.specs.CountRow.{count_row, count_month, exact_count_month, after_months, no_months}
use Rattle.model.specs.Bounds.{bound, ruin_bound, months_to}
use Rattle.model.specs.Sensitivity.{OnlyChancesDiffer, distance, chances_apart}
use Rattle.model.specs.Refusal.{Accepted}
use Rattle.model.proofs.SumLaws.{pow_two_more}
use Rattle.model.proofs.Distances.{apart_none, apart_more, apart_append}
use Rattle.model.proofs.Values.{kept_rel, take_fits, last_fits}
use Rattle.model.proofs.FirstRuin.{ruin_weight_fits}
use Rattle.model.proofs.Counts.{no_months_fit}
use Rattle.model.proofs.Moves.{Near, near_nothing, near_times, near_quotient}
use Rattle.model.proofs.MonthMoves.{Moving, CountMoving, exact_moving, rounded_moving, values_move, exact_count_moving, rounded_count_moving, after_months_move, ruin_moving}
use Rattle.model.proofs.Month.{scale_positive}
use Rattle.model.proofs.Theorems.{months_around, chances_fit, chance_fits, severity_fits, weights_fit, one_month_more, unrounded, unrounded_count, unrounded_ruin, exact_before}

-- two accepted plans that differ only in their chances, in either order
pub record Pair (h : Head) (row : List ℕ) (h' : Head) (row' : List ℕ) : Type 0 where
  pub accepted : Accepted h row
  pub accepted' : Accepted h' row'
  pub only : OnlyChancesDiffer (plan_of h row) (plan_of h' row')

pub turned : {h h' : Head} {row row' : List ℕ} → Pair h row h' row' → Pair h' row' h row
turned pair =
    let only = pair.only in
    record {
      accepted = pair.accepted';
      accepted' = pair.accepted;
      only = record { months = sym only.months; opening = sym only.opening; income = sym only.income; severity = sym only.severity; tail = sym only.tail };
    }

module _ {h h' : Head} {row row' : List ℕ} (pair : Pair h row h' row') where
  abbrev old : Plan
  old = plan_of h row

  abbrev new : Plan
  new = plan_of h' row'

  abbrev only : OnlyChancesDiffer old new
  only = pair.only

  old_fit : (i : ℕ) → get_or old.chances i 0 ≤ S
  old_fit = chances_fit h row pair.accepted

  new_fit : (i : ℕ) → get_or new.chances i 0 ≤ S
  new_fit = chances_fit h' row' pair.accepted'

  weights_most : total old.severity ≤ S
  weights_most = severity_fits h row pair.accepted

  -- a question's answer, by any month that moves with its chance
  value_near :
      (m : ℕ → List ℕ → Month) (D : ℕ → ℕ) → D 0 ≡ 1 → ((n : ℕ) → Moving (m old.income old.severity) (D n) (D (suc n))) →
      (q : Question) → Near (chances_apart old.chances new.chances) (D (horizon old)) (value (m old.income old.severity) old q) (value (m new.income new.severity) new q)
  unfolding value
  value_near m D start moving q =
      rw (← only.income, ← only.severity, ← only.opening)
      (kept_rel (Near (chances_apart old.chances new.chances) (D (horizon old))) (near_nothing _ _) (opening_allowed q) _ _ old.opening
      (rw (add-zero (chances_apart old.chances new.chances)) at
      (values_move (m old.income old.severity) D moving (rule_of q) (last_of q) (last_of q) 0 last old.chances new.chances only.months
      old_fit new_fit (claims_of q) old.opening)))
    where
      last : (k s : ℕ) → Near 0 (D 0) (last_of q k s) (last_of q k s)
      last k s = record { apart = omega arith; fits = rw (start, mul-one S) (last_fits q k s) }

  pub exact_near : (q : Question) → Near (chances_apart old.chances new.chances) (S ^ (2 * horizon old)) (exact old q * S) (exact new q * S)
  exact_near q =
      rw (← unrounded h row pair.accepted q, ← unrounded h' row' pair.accepted' q)
      (value_near exact_month (λ n. S ^ (2 * n)) (pow-zero S) (λ n. rw (pow_two_more S n) (exact_moving old.income old.severity weights_most (S ^ (2 * n)))) q)

  pub bound_near : (round : Rounding) (q : Question) → Near (chances_apart old.chances new.chances) 1 (bound round old q) (bound round new q)
  unfolding bound
  bound_near round q = value_near (month round) (λ n. 1) refl (λ n. rounded_moving old.income old.severity weights_most round) q

  -- a place of the count row
  count_near :
      (m : ℕ → Row → Row) (D : ℕ → ℕ) → D 0 ≡ 1 → ((n : ℕ) → CountMoving m (D n) (D (suc n))) →
      (k : ℕ) → Near (chances_apart old.chances new.chances) (D (horizon old)) (after_months m old.chances no_months k) (after_months m new.chances no_months k)
  count_near m D start moving k =
      rw (add-zero (chances_apart old.chances new.chances), zero-add (horizon old)) at
      (after_months_move m D moving old.chances new.chances only.months old_fit new_fit 0 no_months no_months 0
      (λ j. record { apart = omega arith; fits = rw (start, mul-one S) (no_months_fit j) }) k)

  pub exact_count_near : (k : ℕ) → Near (chances_apart old.chances new.chances) (S ^ (2 * horizon old)) (exact_count old k * S) (exact_count new k * S)
  exact_count_near k =
      rw (← unrounded_count h row pair.accepted k, ← unrounded_count h' row' pair.accepted' k)
      (count_near exact_count_month (λ n. S ^ (2 * n)) (pow-zero S) (λ n. rw (pow_two_more S n) (exact_count_moving (S ^ (2 * n)))) k)

  pub count_row_near : (round : Rounding) (k : ℕ) → Near (chances_apart old.chances new.chances) 1 (count_row round old.chances k) (count_row round new.chances k)
  unfolding count_row
  count_row_near round k = count_near (count_month round) (λ n. 1) refl (λ n. rounded_count_moving round) k

  -- ruin in a month: the months before it, and the month itself
  months_apart :
      (t : ℕ) → 0 < t → t ≤ horizon old →
      chances_apart (months_to old t) (months_to new t)
      ≡ chances_apart (take (t - 1) old.chances) (take (t - 1) new.chances) + distance (nth old.chances t) (nth new.chances t)
  months_apart t some l =
      ap₂ chances_apart (one_month_more h row pair.accepted t some l) (one_month_more h' row' pair.accepted' t some (omega (arith, only.months)))
      ∙ apart_append (take (t - 1) old.chances) (take (t - 1) new.chances) _ _
      (length-take-le (t - 1) old.chances (omega arith) ∙ sym (length-take-le (t - 1) new.chances (omega (arith, only.months))))
      ∙ omega (arith, apart_more (nth old.chances t) (nth new.chances t) [] [], apart_none)

  carried_near :
      (m : ℕ → List ℕ → Month) (D : ℕ → ℕ) → ((n : ℕ) → Moving (m old.income old.severity) (D n) (D (suc n))) →
      (t : ℕ) → 0 < t → t ≤ horizon old → (before before' : Row) →
      ((s : ℕ) → Near (distance (nth old.chances t) (nth new.chances t)) (D 0) (before s) (before' s)) →
      Near (chances_apart (months_to old t) (months_to new t)) (D (t - 1)) (carried_back (m old.income old.severity) old t before) (carried_back (m new.income new.severity) new t before')
  unfolding carried_back
  carried_near m D moving t some l before before' near =
      rw (months_apart t some l, ← only.income, ← only.severity, ← only.opening)
      (rw count at
      (values_move (m old.income old.severity) D moving (rule_of Survive) (λ k. before) (λ k. before') (distance (nth old.chances t) (nth new.chances t)) (λ k s. near s)
      (take (t - 1) old.chances) (take (t - 1) new.chances) (count ∙ sym (length-take-le (t - 1) new.chances (omega (arith, only.months))))
      (take_fits S (t - 1) old.chances old_fit) (take_fits S (t - 1) new.chances new_fit)
      (claims_of Survive) old.opening))
    where
      count : length (take (t - 1) old.chances) ≡ t - 1
      count = length-take-le (t - 1) old.chances (omega arith)

  before_near :
      (t s : ℕ) →
      Near (distance (nth old.chances t) (nth new.chances t)) S (exact_before h row pair.accepted t s) (exact_before h' row' pair.accepted' t s)
  before_near t s =
      rw (← only.income, ← only.severity, ← only.tail)
      (ruin_moving (nth old.chances t) (nth new.chances t) (ruin_weight old.severity old.tail (s + old.income))
      (chance_fits h row pair.accepted t) (chance_fits h' row' pair.accepted' t) (ruin_weight_fits old.severity old.tail (weights_fit h row pair.accepted) (s + old.income)))

  pub ruin_bound_near : (round : Rounding) (t : ℕ) → 0 < t → t ≤ horizon old → Near (chances_apart (months_to old t) (months_to new t)) 1 (ruin_bound round old t) (ruin_bound round new t)
  unfolding ruin_bound ruin_row
  ruin_bound_near round t some l =
      carried_near (month round) (λ n. 1) (λ n. rounded_moving old.income old.severity weights_most round) t some l _ _
      (λ s. near_quotient round S scale_positive (before_near t s))

  pub exact_ruin_near :
      (t : ℕ) → 0 < t → t ≤ horizon old → Near (chances_apart (months_to old t) (months_to new t)) (S ^ (2 * horizon old)) (exact_ruin old t * S) (exact_ruin new t * S)
  exact_ruin_near t some l =
      rw (
        scaled _ _ (horizon old) refl (sym (unrounded_ruin h row pair.accepted t some l)),
        scaled _ _ (horizon new) (sym only.months) (sym (unrounded_ruin h' row' pair.accepted' t some (omega (arith, only.months)))),
      )
      (rw around at
      (near_times (S ^ (2 * (horizon old - t)) * S)
      (carried_near exact_month (λ n. S ^ (2 * n) * S) (λ n. rw (pow_two_more S n, months n) (exact_moving old.income old.severity weights_most (S ^ (2 * n) * S)))
      t some l (exact_before h row pair.accepted t) (exact_before h' row' pair.accepted' t) (λ s. rw (pow-zero S, one-mul S) (before_near t s)))))
    where
      months : (n : ℕ) → S * (S * S ^ (2 * n)) * S ≡ S * (S * (S ^ (2 * n) * S))
      months n = mul_assoc S (S * S ^ (2 * n)) S ∙ ap (λ (x : ℕ). S * x) (mul_assoc S (S ^ (2 * n)) S)

      scaled : (W A n : ℕ) → n ≡ horizon old → W ≡ A * S ^ (2 * (n - t)) → W * S ≡ S ^ (2 * (horizon old - t)) * S * A
      scaled W A n same e =
          ap (λ (x : ℕ). x * S) (e ∙ ap (λ (x : ℕ). A * S ^ (2 * (x - t))) same)
          ∙ mul_assoc A (S ^ (2 * (horizon old - t))) S
          ∙ mul_comm A (S ^ (2 * (horizon old - t)) * S)

      after : horizon old - suc (t - 1) ≡ horizon old - t
      after = omega arith

      around : S ^ (2 * (horizon old - t)) * S * (S ^ (2 * (t - 1)) * S) ≡ S ^ (2 * horizon old)
      around = mul_comm (S ^ (2 * (horizon old - t)) * S) (S ^ (2 * (t - 1)) * S) ∙ rw after at (months_around (t - 1) (horizon old) (omega arith))
