-- Ruin in a month: the rounded and the unrounded rule, and the weight of the histories whose first ruin falls there. All months' first ruins and survival make
-- up the whole.
use mathlib.Core.Path.{◌≡◌, refl, sym, ◌∙◌, ap, ap₂, fun_ext}
use mathlib.Core.Bool.{Bool, true, false, not, ◌&&◌}
use mathlib.Core.List.{List, [], ◌∷◌, ◌++◌}
use Prim.Native.Nat.{ℕ, zero, suc, ◌+◌, ◌*◌, ◌-◌, ◌^◌, ◌≤◌, ◌<◌}
use native.Mathlib.Nat.{zero-mul, mul-zero, mul_assoc, mul-add, add-mul, eq_of_mul-eq-mul_right, mul-le-mul, le_refl, le_trans}
use native.Mathlib.Omega.{arith}
use lib.IntN.{pos, negsuc}
use lib.ListN.{length, get_or, take, drop, length-drop}
use lib.Seq.{take-suc, take_all, split_at, length-take-le, get_or-drop}
use borrow.Author.Tests.{le-leb, lt-leb}
use Rattle.model.specs.declared.Rounding.{Rounding}
use Rattle.model.specs.declared.Rounding.TheVariants.{Down, Up}
use Rattle.model.specs.declared.Question.TheVariants.{Survive}
use Rattle.model.specs.Scale.{S}
use Rattle.model.specs.Sums.{sum, total, all, count}
use Rattle.model.specs.Plan.{nth}
use Rattle.model.specs.History.{no_claim, claim, History, Surplus, known, lost, next_surplus, surplus_path, at_least, at_most}
use Rattle.model.specs.Exact.{path_from, survives, first_ruin}
use Rattle.model.specs.MonthRule.{Row, exact_month, values, rule_of, ruin_weight, ruin_row}
use Rattle.model.specs.Bounds.{live_months, month_gap, RuinLimits}
use Rattle.model.proofs.SumLaws.{sum_nth_from, sum_telescope, total_drop_le}
use Rattle.model.proofs.Quotients.{Direction, quotient_le, quotient_gap, quotient_whole}
use Rattle.model.proofs.Month.{scale_positive, limit, scale_limit}
use Rattle.model.proofs.Values.{take_fits, values_times, live_months_live}
use Rattle.model.proofs.Histories.{weigh, weigh_split, weigh_none, weigh_same, weigh_either, weigh_all}
use Rattle.model.proofs.Unrounded.{and_true, and_assoc, claim_ruins, claim_leaves, Condition, Leads, carried_weigh}

-- a surplus is at most 0 or at least 1
ruined_or_not : (u : Surplus) → at_most 0 u ≡ not (at_least 1 u)
unfolding at_most at_least
ruined_or_not (known (pos zero)) = refl
ruined_or_not (known (pos (suc z))) = rw (lt-leb (suc z) 0 (omega arith), le-leb 1 (suc z) (omega arith))
ruined_or_not (known (negsuc z)) = refl
ruined_or_not lost = refl

-- first ruin after n months, whatever the claims
ruin_after : ℕ → ℕ → Condition
ruin_after income n k s h = all (at_least 1) (take n (path_from income s h)) && at_most 0 (get_or (path_from income s h) n (known (pos 1)))

-- a month before the ruin
ruin_later : (income : ℕ) → 0 < income → (n : ℕ) → Leads income (rule_of Survive) (ruin_after income (suc n)) (ruin_after income n)
unfolding ruin_after rule_of all surplus_path next_surplus at_least
ruin_later income some_income n =
    record {
      quiet = λ k s h. rw (le-leb 1 (s + income) (omega (arith, some_income)));
      over = λ k s h. refl;
      ruin = λ k s i l h. rw (claim_ruins income s i l);
      claimed = λ k s i l h. rw (claim_leaves income s i l, le-leb 1 (s + income - suc i) (omega arith));
    }

first_ruin_is : (income i u : ℕ) (h : History) → first_ruin income (suc i) u h ≡ ruin_after income i 0 u h
unfolding first_ruin ruin_after
first_ruin_is income i u h =
    let index : suc i - 1 ≡ i = omega arith in
    ap (λ (n : ℕ). all (at_least 1) (take n (path_from income u h)) && at_most 0 (get_or (path_from income u h) n (known (pos 1)))) index

path_length : (income : ℕ) (u : Surplus) (h : History) → length (surplus_path income u h) ≡ length h
unfolding surplus_path
path_length income u [] = refl
path_length income u (e ∷ h) = ap suc (path_length income (next_surplus income u e) h)

all_snoc : {A : Type 0} (f : A → Bool) (xs : List A) (x : A) → all f (xs ++ x ∷ []) ≡ all f xs && f x
unfolding all
all_snoc f [] x = and_true (f x)
all_snoc f (y ∷ xs) x = ap (λ (b : Bool). f y && b) (all_snoc f xs x) ∙ sym (and_assoc (f y) (all f xs) (f x))

module _ (income : ℕ) (F : List ℕ) (tail : ℕ) where
  -- the month of the ruin: the sizes that ruin and over, and whatever comes later
  ruin_now :
      0 < income → (P : ℕ) (Ps : List ℕ) (k s : ℕ) →
      weigh F tail (P ∷ Ps) (ruin_after income 0 k s) ≡ P * ruin_weight F tail (s + income) * weigh F tail Ps (λ h. true)
  unfolding ruin_after ruin_weight all surplus_path next_surplus at_most
  ruin_now some_income P Ps k s =
      rw (weigh_split F tail P Ps (ruin_after income 0 k s), fun_ext quiet, weigh_none F tail Ps, claims)
      (omega (
        arith,
        mul-zero ((S - P) * S),
        mul_assoc P tail w,
        mul_assoc P (total (drop (s + income - 1) F) + tail) w,
        ap (λ (y : ℕ). P * y) (add-mul (total (drop (s + income - 1) F)) tail w),
        mul-add P (total (drop (s + income - 1) F) * w) (tail * w),
      ))
    where
      w : ℕ
      w = weigh F tail Ps (λ h. true)

      quiet : (h : History) → ruin_after income 0 k s (no_claim ∷ h) ≡ false
      quiet h = lt-leb (s + income) 0 (omega (arith, some_income))

      small : (i : ℕ) → i < s + income - 1 → (h : History) → ruin_after income 0 k s (claim (suc i) ∷ h) ≡ false
      small i l h = rw (claim_leaves income s i (omega arith)) (lt-leb (s + income - suc i) 0 (omega arith))

      large : (i : ℕ) → s + income - 1 ≤ i → (h : History) → ruin_after income 0 k s (claim (suc i) ∷ h) ≡ true
      large i l h = ruined_or_not (next_surplus income (known (pos s)) (claim (suc i))) ∙ ap not (claim_ruins income s i (omega (arith, some_income)))

      claims : sum (length F) (λ x. nth F x * weigh F tail Ps (λ h. ruin_after income 0 k s (claim x ∷ h))) ≡ total (drop (s + income - 1) F) * w
      claims =
          sum_nth_from F (s + income - 1) w (λ x. nth F x * weigh F tail Ps (λ h. ruin_after income 0 k s (claim x ∷ h)))
          (λ i l. rw (fun_ext (small i l), weigh_none F tail Ps) (mul-zero (nth F (suc i))))
          (λ i l. rw (fun_ext (large i l)))

  -- The unrounded rule is the weight of the histories whose first ruin falls in month i + 1; each month after it multiplies the weight by S × S.
  pub unrounded_ruin_is_exact :
      0 < income → total F + tail ≡ S → (Ps : List ℕ) → ((j : ℕ) → get_or Ps j 0 ≤ S) → (i : ℕ) → i < length Ps → (u : ℕ) →
      weigh F tail Ps (first_ruin income (suc i) u)
      ≡ values (exact_month income F) (rule_of Survive) (λ k s. get_or Ps i 0 * ruin_weight F tail (s + income)) (take i Ps) 0 u * S ^ (2 * (length Ps - suc i))
  unrounded_ruin_is_exact some_income whole Ps fits i l u =
      eq_of_mul-eq-mul_right S scale_positive _ _
      (ap (λ (C : History → Bool). weigh F tail Ps C * S) (fun_ext (first_ruin_is income i u))
      ∙ rw count at carried
      ∙ ap (λ (last : ℕ → Row). values (exact_month income F) (rule_of Survive) last (take i Ps) 0 u) (fun_ext (λ k. fun_ext (λ s. ends k s)))
      ∙ sym (values_times income F (rule_of Survive) (λ k s. P * ruin_weight F tail (s + income)) (w * S) (take i Ps) early 0 u)
      ∙ sym (mul_assoc _ w S)
      ∙ ap (λ (x : ℕ). values (exact_month income F) (rule_of Survive) (λ k s. P * ruin_weight F tail (s + income)) (take i Ps) 0 u * x * S) later)
    where
      P : ℕ
      P = get_or Ps i 0

      rest : List ℕ
      rest = drop (suc i) Ps

      w : ℕ
      w = weigh F tail rest (λ h. true)

      count : length (take i Ps) ≡ i
      count = length-take-le i Ps (omega arith)

      early : (j : ℕ) → get_or (take i Ps) j 0 ≤ S
      early = take_fits S i Ps fits

      carried :
          weigh F tail Ps (ruin_after income (length (take i Ps)) 0 u) * S
          ≡ values (exact_month income F) (rule_of Survive) (λ k s. weigh F tail (P ∷ rest) (ruin_after income 0 k s) * S) (take i Ps) 0 u
      carried =
          rw (← split_at Ps i 0 l) at
          (carried_weigh income some_income (rule_of Survive) F tail (ruin_after income) (ruin_later income some_income) (P ∷ rest) (λ k s. weigh F tail (P ∷ rest) (ruin_after income 0 k s) * S) (λ k s. refl)
          (take i Ps) 0 u)

      ends : (k s : ℕ) → weigh F tail (P ∷ rest) (ruin_after income 0 k s) * S ≡ P * ruin_weight F tail (s + income) * (w * S)
      ends k s = ap (λ (x : ℕ). x * S) (ruin_now some_income P rest k s) ∙ mul_assoc (P * ruin_weight F tail (s + income)) w S

      later : w ≡ S ^ (2 * (length Ps - suc i))
      later =
          weigh_all F tail whole rest (λ j. rw get_or-drop (fits (suc i + j)))
          ∙ ap (λ (n : ℕ). S ^ (2 * n)) (length-drop (suc i) Ps)

  -- The histories that last i months either last the next or have their first ruin in it; so all months' first ruins and survival make up the whole.
  pub ruins_make_up :
      (Ps : List ℕ) (u : ℕ) →
      sum (length Ps) (λ t. weigh F tail Ps (first_ruin income t u)) + weigh F tail Ps (survives income u) ≡ weigh F tail Ps (λ h. true)
  unfolding survives ruin_after all
  ruins_make_up Ps u =
      ap (λ (x : ℕ). sum (length Ps) (λ t. weigh F tail Ps (first_ruin income t u)) + x) (weigh_same F tail Ps _ (lasts (length Ps)) whole)
      ∙ sum_telescope (length Ps) (λ i. weigh F tail Ps (lasts i)) (λ t. weigh F tail Ps (first_ruin income t u)) (λ i l. next i l)
    where
      lasts : ℕ → History → Bool
      lasts i h = all (at_least 1) (take i (path_from income u h))

      whole : (h : History) → length h ≡ length Ps → all (at_least 1) (path_from income u h) ≡ lasts (length Ps) h
      whole h e = ap (all (at_least 1)) (sym (take_all (length Ps) (path_from income u h) (omega (arith, path_length income (known (pos u)) h))))

      one_more : (i : ℕ) → i < length Ps → (h : History) → length h ≡ length Ps → lasts (suc i) h ≡ lasts i h && at_least 1 (get_or (path_from income u h) i (known (pos 1)))
      one_more i l h e =
          ap (all (at_least 1)) (take-suc (path_from income u h) i (known (pos 1)) (omega (arith, path_length income (known (pos u)) h)))
          ∙ all_snoc (at_least 1) (take i (path_from income u h)) (get_or (path_from income u h) i (known (pos 1)))

      ruin_is : (i : ℕ) (h : History) → first_ruin income (suc i) u h ≡ lasts i h && not (at_least 1 (get_or (path_from income u h) i (known (pos 1))))
      ruin_is i h = first_ruin_is income i u h ∙ ap (λ (b : Bool). lasts i h && b) (ruined_or_not _)

      next : (i : ℕ) → i < length Ps → weigh F tail Ps (first_ruin income (suc i) u) + weigh F tail Ps (lasts (suc i)) ≡ weigh F tail Ps (lasts i)
      next i l =
          ap₂ (λ (a b : ℕ). a + b) (ap (weigh F tail Ps) (fun_ext (ruin_is i))) (weigh_same F tail Ps (lasts (suc i)) _ (one_more i l))
          ∙ weigh_either F tail Ps (lasts i) (λ h. at_least 1 (get_or (path_from income u h) i (known (pos 1))))

-- The row before the month of a ruin: it encloses the exact one, …
pub ruin_row_encloses :
    {rel : ℕ → ℕ → Type 0} {round : Rounding} (d : Direction rel round) (income : ℕ) (F : List ℕ) (tail P s : ℕ) →
    rel (ruin_row round income F tail P s * S) (P * ruin_weight F tail (s + income))
unfolding ruin_row
ruin_row_encloses d income F tail P s = d.rounds (P * ruin_weight F tail (s + income)) S scale_positive

-- … its two roundings are apart by at most that month's allowance …
pub ruin_row_gap : (income : ℕ) (F : List ℕ) (tail P s : ℕ) → ruin_row Up income F tail P s ≤ ruin_row Down income F tail P s + month_gap * live_months (P ∷ [])
unfolding ruin_row count live_months
ruin_row_gap income F tail zero s = rw (zero-mul (ruin_weight F tail (s + income))) (rw (mul-zero S) at (quotient_whole 0 0 S 0 scale_positive (le_refl 0)))
ruin_row_gap income F tail (suc P) s =
    rw (live_months_live P [])
    (omega (arith, quotient_gap (suc P * ruin_weight F tail (s + income)) (suc P * ruin_weight F tail (s + income)) S 0 scale_positive (omega arith)))

-- … and nothing passes S × S, or S once it is divided.
pub ruin_weight_fits : (F : List ℕ) (tail : ℕ) → total F + tail ≤ S → (r : ℕ) → ruin_weight F tail r ≤ S
unfolding ruin_weight
ruin_weight_fits F tail weights_fit r = omega (arith, total_drop_le (r - 1) F)

module _ (income : ℕ) (F : List ℕ) (tail : ℕ) (weights_fit : total F + tail ≤ S) where
  pub ruin_row_fits : (round : Rounding) (P : ℕ) → P ≤ S → (s : ℕ) → ruin_row round income F tail P s ≤ S
  unfolding ruin_row
  ruin_row_fits round P hP s = quotient_le round _ S S scale_positive (mul-le-mul hP (ruin_weight_fits F tail weights_fit (s + income)))

  pub ruin_limited : (P : ℕ) → P ≤ S → (s : ℕ) → RuinLimits income F tail P s
  ruin_limited P hP s =
      record {
        weight = le_trans (ruin_weight_fits F tail weights_fit (s + income)) scale_limit;
        month_total = limit _ (mul-le-mul hP (ruin_weight_fits F tail weights_fit (s + income)));
      }
