-- Laws of the count row: its months enclose the exact ones, keep within S and within the gap; without rounding it weighs the histories.
use mathlib.Core.Path.{◌≡◌, refl, sym, ◌∙◌, ap, fun_ext}
use mathlib.Core.Bool.{true, cond}
use mathlib.Core.List.{List, [], ◌∷◌}
use Prim.Native.Nat.{ℕ, zero, suc, ◌+◌, ◌*◌, ◌-◌, ◌^◌, ◌≤◌, ◌<◌}
use native.Mathlib.Nat.{mul-add, add-mul, mul_assoc, mul_comm, mul_left_comm, mul_right_comm, mul-zero, zero-mul, mul-one, one-mul, zero-add, add_comm, sub-zero, pow-zero, le_refl}
use native.Mathlib.Omega.{arith}
use lib.Dec.{eqb, eqb-zero-suc, eqb-suc-zero, eqb-suc-suc}
use lib.ListN.{length, get_or}
use Rattle.model.specs.declared.Rounding.{Rounding}
use Rattle.model.specs.declared.Rounding.TheVariants.{Down, Up}
use Rattle.model.specs.Scale.{S, quotient}
use Rattle.model.specs.Sums.{total, count}
use Rattle.model.specs.Plan.{Plan, nth}
use Rattle.model.specs.History.{Event, no_claim, claim, tail_claim, History, is_claim, claims}
use Rattle.model.specs.Exact.{has_claims, exact_count}
use Rattle.model.specs.MonthRule.{Row}
use Rattle.model.specs.CountRow.{one_before, count_month, exact_count_month, no_months, after_months, count_row, tabulate}
use Rattle.model.specs.Bounds.{live_months, month_gap}
use Rattle.model.proofs.SumLaws.{sum_nth_times, pow_two_more}
use Rattle.model.proofs.Quotients.{Direction, times_right, quotient_le, quotient_gap, quotient_whole}
use Rattle.model.proofs.Month.{scale_positive, mixture_le, mixture_keeps}
use Rattle.model.proofs.Values.{live_months_idle, live_months_live}
use Rattle.model.proofs.Histories.{weigh, weight_is, weigh_end, weigh_split, weigh_none, claims_weigh, claims_quiet, claims_more}

-- a row in memory
pub length_tabulate : (n : ℕ) (f : Row) → length (tabulate n f) ≡ n
unfolding tabulate
length_tabulate zero f = refl
length_tabulate (suc n) f = ap suc (length_tabulate n (λ k. f (suc k)))

pub get_d_tabulate : (n : ℕ) (f : Row) (k : ℕ) → k < n → get_or (tabulate n f) k 0 ≡ f k
unfolding tabulate
get_d_tabulate zero f k l = absurd (omega arith)
get_d_tabulate (suc n) f zero l = refl
get_d_tabulate (suc n) f (suc k) l = get_d_tabulate n (λ i. f (suc i)) k (omega arith)

-- what holds of 0 and of every place holds of the place before
pub before_rel : (R : ℕ → ℕ → Type 0) → R 0 0 → (X Y : Row) → ((k : ℕ) → R (X k) (Y k)) → (k : ℕ) → R (one_before X k) (one_before Y k)
unfolding one_before
before_rel R nothing X Y h zero = nothing
before_rel R nothing X Y h (suc k) = h k

count_month_encloses :
    {rel : ℕ → ℕ → Type 0} {round : Rounding} (d : Direction rel round) (P : ℕ) (X E : Row) (D : ℕ) → ((k : ℕ) → rel (X k * D) (E k)) →
    (k : ℕ) → rel (count_month round P X k * (S * (S * D))) (exact_count_month P E k)
unfolding count_month exact_count_month
count_month_encloses {rel} {round} d P X E D h k =
    rw (← mul_assoc (quotient round N S) S (S * D), mul_comm S D)
    (d.then (times_right d (D * S) (d.rounds N S scale_positive))
    (rw (← mul_assoc N D S, add-mul (P * one_before X k) ((S - P) * X k) D, mul_assoc P (one_before X k) D, mul_assoc (S - P) (X k) D)
    (times_right d S
    (d.plus (d.times P (before_rel (λ a e. rel (a * D) e) (rw zero-mul (d.same 0)) X E h k)) (d.times (S - P) (h k))))))
  where
    N : ℕ
    N = P * one_before X k + (S - P) * X k

-- What a month works out at a place, where no value of its row is above S
pub record CountFits (round : Rounding) (P : ℕ) (X : Row) (k : ℕ) : Type 0 where
  pub parts : P * one_before X k + (S - P) * X k ≤ S * S
  pub value : count_month round P X k ≤ S

pub count_month_fits :
    (round : Rounding) (P : ℕ) → P ≤ S → (X : Row) → ((k : ℕ) → X k ≤ S) → (k : ℕ) → CountFits round P X k
unfolding count_month
count_month_fits round P hP X h k = record { parts = m; value = quotient_le round _ S S scale_positive m }
  where
    m : P * one_before X k + (S - P) * X k ≤ S * S
    m =
        rw add_comm
        (mixture_le P (X k) (one_before X k) S hP (h k) (before_rel (λ a b. a ≤ S) (omega arith) X X h k))

-- a month adds one part to the gap, and none where its chance is 0
count_gap_live :
    (P : ℕ) → P ≤ S → (X X' : Row) (g : ℕ) → ((k : ℕ) → X' k ≤ X k + g) → (k : ℕ) → count_month Up P X' k ≤ count_month Down P X k + (g + 1)
unfolding count_month
count_gap_live P hP X X' g h k =
    quotient_gap (P * one_before X k + (S - P) * X k) (P * one_before X' k + (S - P) * X' k) S g scale_positive
    (omega (arith, mixture_keeps P (X' k) (one_before X' k) (X k) (one_before X k) g hP (h k) (before_rel (λ a b. b ≤ a + g) (omega arith) X X' h k)))

count_gap_idle : (X X' : Row) (g : ℕ) → ((k : ℕ) → X' k ≤ X k + g) → (k : ℕ) → count_month Up 0 X' k ≤ count_month Down 0 X k + g
unfolding count_month
count_gap_idle X X' g h k = simp (zero-mul, zero-add, sub-zero) (quotient_whole (X k) (X' k) S g scale_positive (h k))

-- and over all months
after_months_encloses :
    {rel : ℕ → ℕ → Type 0} {round : Rounding} (d : Direction rel round) (Ps : List ℕ) (X E : Row) (D : ℕ) → ((k : ℕ) → rel (X k * D) (E k)) →
    (k : ℕ) → rel (after_months (count_month round) Ps X k * (S ^ (2 * length Ps) * D)) (after_months exact_count_month Ps E k)
unfolding after_months
after_months_encloses {rel} {round} d [] X E D h k = rw (pow-zero S, one-mul D) (h k)
after_months_encloses {rel} {round} d (P ∷ Ps) X E D h k =
    rw (pow_two_more S (length Ps), more (S ^ (2 * length Ps)))
    (after_months_encloses d Ps (count_month round P X) (exact_count_month P E) (S * (S * D)) (count_month_encloses d P X E D h) k)
  where
    more : (B : ℕ) → S * (S * B) * D ≡ B * (S * (S * D))
    more B = rw (mul_assoc S (S * B) D, mul_assoc S B D, mul_left_comm B S (S * D), mul_left_comm B S D)

after_months_fit :
    (round : Rounding) (Ps : List ℕ) → ((i : ℕ) → get_or Ps i 0 ≤ S) → (X : Row) → ((k : ℕ) → X k ≤ S) →
    (k : ℕ) → after_months (count_month round) Ps X k ≤ S
unfolding after_months
after_months_fit round [] hP X h = h
after_months_fit round (P ∷ Ps) hP X h =
    after_months_fit round Ps (λ i. hP (suc i)) (count_month round P X) (λ k. (count_month_fits round P (hP 0) X h k).value)

after_months_gap :
    (Ps : List ℕ) → ((i : ℕ) → get_or Ps i 0 ≤ S) → (X X' : Row) (g : ℕ) → ((k : ℕ) → X' k ≤ X k + g) →
    (k : ℕ) → after_months (count_month Up) Ps X' k ≤ after_months (count_month Down) Ps X k + (g + month_gap * live_months Ps)
unfolding after_months
after_months_gap [] hP X X' g h k = omega (arith, h k)
after_months_gap (zero ∷ Ps) hP X X' g h k =
    rw live_months_idle
    (after_months_gap Ps (λ i. hP (suc i)) (count_month Down 0 X) (count_month Up 0 X') g (count_gap_idle X X' g h) k)
after_months_gap (suc P ∷ Ps) hP X X' g h k =
    rw live_months_live
    (omega (
      arith,
      after_months_gap Ps (λ i. hP (suc i)) (count_month Down (suc P) X) (count_month Up (suc P) X') (g + 1) (count_gap_live (suc P) (hP 0) X X' g h) k,
    ))

-- two exact months can be taken in either order
swap : (P P' Q Q' x y z : ℕ) → (P * ((Q * x + Q' * y) * S) + P' * ((Q * y + Q' * z) * S)) * S ≡ (Q * ((P * x + P' * y) * S) + Q' * ((P * y + P' * z) * S)) * S
swap P P' Q Q' x y z =
    simp (add-mul, mul-add, mul_assoc)
    (omega (
      arith,
      mul_left_comm P Q (x * (S * S)),
      mul_left_comm P Q' (y * (S * S)),
      mul_left_comm P' Q (y * (S * S)),
      mul_left_comm P' Q' (z * (S * S)),
    ))

months_commute : (P Q : ℕ) (X : Row) (k : ℕ) → exact_count_month P (exact_count_month Q X) k ≡ exact_count_month Q (exact_count_month P X) k
unfolding exact_count_month one_before
months_commute P Q X zero = simp (mul-zero, zero-add) (simp (mul-zero, zero-mul, zero-add) at (swap P (S - P) Q (S - Q) 0 0 (X 0)))
months_commute P Q X (suc k) = swap P (S - P) Q (S - Q) (one_before X k) (X k) (X (suc k))

-- so the first month can be taken last
after_months_first : (P : ℕ) (Ps : List ℕ) (X : Row) → after_months exact_count_month Ps (exact_count_month P X) ≡ exact_count_month P (after_months exact_count_month Ps X)
unfolding after_months
after_months_first P [] X = refl
after_months_first P (Q ∷ Ps) X =
    ap (after_months exact_count_month Ps) (fun_ext (months_commute Q P X)) ∙ after_months_first P Ps (exact_count_month Q X)

none : (k : ℕ) → no_months k ≡ cond (has_claims k []) 1 0 * S
unfolding no_months has_claims claims count
none zero = sym (one-mul S)
none (suc k) = rw (eqb-zero-suc k) (sym (zero-mul S))

exact_count_times : (P : ℕ) (X : Row) (c k : ℕ) → exact_count_month P (λ j. X j * c) k ≡ exact_count_month P X k * c
unfolding exact_count_month
exact_count_times P X c k =
    rw (before_rel (λ a b. a ≡ b * c) (sym (zero-mul c)) (λ j. X j * c) X (λ j. refl) k, mul_right_comm (P * one_before X k + (S - P) * X k) S c)
    (ap (λ (y : ℕ). y * S) (simp (add-mul, mul_assoc)))

module _ (F : List ℕ) (tail : ℕ) (whole : total F + tail ≡ S) where
  -- the weights of the histories with a claim in the first month
  claimed_weigh :
      (Ps : List ℕ) (e : Event) → is_claim e ≡ true → (k : ℕ) →
      weigh F tail Ps (λ h. has_claims k (e ∷ h)) ≡ one_before (λ j. weigh F tail Ps (has_claims j)) k
  unfolding one_before has_claims
  claimed_weigh Ps e c zero = ap (weigh F tail Ps) (fun_ext (λ h. rw (claims_more e h c) (eqb-suc-zero (claims h)))) ∙ weigh_none F tail Ps
  claimed_weigh Ps e c (suc k) = ap (weigh F tail Ps) (fun_ext (λ h. rw (claims_more e h c) (eqb-suc-suc (claims h) k)))

  weigh_count_month : (P : ℕ) (Ps : List ℕ) (k : ℕ) → weigh F tail (P ∷ Ps) (has_claims k) ≡ exact_count_month P (λ j. weigh F tail Ps (has_claims j)) k
  unfolding exact_count_month has_claims is_claim
  weigh_count_month P Ps k =
      rw (
        weigh_split F tail P Ps (has_claims k),
        fun_ext quiet,
        claimed_weigh Ps tail_claim refl k,
        fun_ext sizes,
        sum_nth_times F b,
      )
      (omega (
        arith,
        claims_weigh F tail whole P b,
        add-mul (P * b) ((S - P) * a) S,
        mul_assoc P b S,
        ap (λ (y : ℕ). P * y) (mul_comm S b),
        mul_right_comm (S - P) S a,
      ))
    where
      a : ℕ
      a = weigh F tail Ps (has_claims k)

      b : ℕ
      b = one_before (λ j. weigh F tail Ps (has_claims j)) k

      quiet : (h : History) → has_claims k (no_claim ∷ h) ≡ has_claims k h
      quiet h = ap (λ (c : ℕ). eqb c k) (claims_quiet h)

      sizes : (x : ℕ) → nth F x * weigh F tail Ps (λ h. has_claims k (claim x ∷ h)) ≡ nth F x * b
      sizes x = ap (λ (y : ℕ). nth F x * y) (claimed_weigh Ps (claim x) refl k)

  -- the unrounded count row weighs the histories, in parts of S
  after_months_weigh : (Ps : List ℕ) (k : ℕ) → after_months exact_count_month Ps no_months k ≡ weigh F tail Ps (has_claims k) * S
  unfolding after_months
  after_months_weigh [] k = rw (weigh_end F tail (has_claims k)) (none k)
  after_months_weigh (P ∷ Ps) k =
      ap (λ (X : Row). X k) (after_months_first P Ps no_months)
      ∙ ap (λ (X : Row). exact_count_month P X k) (fun_ext (after_months_weigh Ps))
      ∙ exact_count_times P (λ j. weigh F tail Ps (has_claims j)) S k
      ∙ ap (λ (y : ℕ). y * S) (sym (weigh_count_month P Ps k))

-- The unrounded count row is W at every place, in parts of S.
pub unrounded_count_is_exact :
    (p : Plan) → total p.severity + p.tail ≡ S →
    (k : ℕ) → after_months exact_count_month p.chances no_months k ≡ exact_count p k * S
unfolding exact_count
unrounded_count_is_exact p whole k = rw weight_is (after_months_weigh p.severity p.tail whole p.chances k)

pub no_months_fit : (k : ℕ) → no_months k ≤ S
unfolding no_months
no_months_fit zero = le_refl S
no_months_fit (suc k) = omega arith

pub count_row_encloses :
    {rel : ℕ → ℕ → Type 0} {round : Rounding} (d : Direction rel round) (Ps : List ℕ) (k : ℕ) →
    rel (count_row round Ps k * S ^ (2 * length Ps)) (after_months exact_count_month Ps no_months k)
unfolding count_row
count_row_encloses d Ps k =
    rw mul-one at (after_months_encloses d Ps no_months no_months 1 (λ j. rw mul-one (d.same (no_months j))) k)

pub count_row_fits :
    (round : Rounding) (Ps : List ℕ) → ((i : ℕ) → get_or Ps i 0 ≤ S) → (k : ℕ) → count_row round Ps k ≤ S
unfolding count_row
count_row_fits round Ps hP = after_months_fit round Ps hP no_months no_months_fit

pub count_row_gap :
    (Ps : List ℕ) → ((i : ℕ) → get_or Ps i 0 ≤ S) → (k : ℕ) → count_row Up Ps k ≤ count_row Down Ps k + month_gap * live_months Ps
unfolding count_row
count_row_gap Ps hP k = rw zero-add at (after_months_gap Ps hP no_months no_months 0 (λ j. omega arith) k)

-- a row that is 0 above a place is 0 above the next place after a month …
above_month :
    (round : Rounding) (P j : ℕ) (X : Row) → ((k : ℕ) → j < k → X k ≡ 0) →
    (k : ℕ) → suc j < k → count_month round P X k ≡ 0
unfolding count_month one_before
above_month round P j X h zero l = absurd (omega arith)
above_month round P j X h (suc k) l =
    rw (h k (omega arith), h (suc k) (omega arith), mul-zero P, mul-zero (S - P)) (omega (arith, quotient_le round 0 S 0 scale_positive (omega arith)))

after_months_above :
    (round : Rounding) (Ps : List ℕ) (j : ℕ) (X : Row) → ((k : ℕ) → j < k → X k ≡ 0) →
    (k : ℕ) → j + length Ps < k → after_months (count_month round) Ps X k ≡ 0
unfolding after_months
after_months_above round [] j X h k l = h k (omega arith)
after_months_above round (P ∷ Ps) j X h k l =
    after_months_above round Ps (suc j) (count_month round P X) (above_month round P j X h) k (omega arith)

nothing_above : (k : ℕ) → 0 < k → no_months k ≡ 0
unfolding no_months
nothing_above zero l = absurd (omega arith)
nothing_above (suc k) l = refl

-- … so after n months it is 0 above n
pub count_row_above : (round : Rounding) (Ps : List ℕ) (k : ℕ) → length Ps < k → count_row round Ps k ≡ 0
unfolding count_row
count_row_above round Ps k l = after_months_above round Ps 0 no_months nothing_above k (omega arith)
