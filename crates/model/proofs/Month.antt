-- Laws of one month over rows: the claim sum, the month in machine numbers, and what a month keeps income of its rows.
use mathlib.Core.Path.{◌≡◌, refl, sym, ◌∙◌, ap, ap₂}
use mathlib.Core.List.{List, [], ◌∷◌}
use Prim.Native.Nat.{ℕ, zero, suc, ◌+◌, ◌*◌, ◌-◌, ◌/◌, ◌%◌, ◌≤◌, zero-le, ◌<◌, min}
use native.Mathlib.Nat.{le_refl, suc-min-suc, min-zero, mul-le-mul, mul-le-mul_left, mul-le-mul_right, mul-add, add-mul, mul_assoc, mul_right_comm, mul-zero, zero-mul, mul-pos, le_trans, sub-add_cancel, sub-zero, add-zero, div-add-mod', mod-lt}
use native.Mathlib.Omega.{arith}
use lib.ListN.{length, get_or}
use Rattle.model.specs.declared.Rounding.{Rounding}
use Rattle.model.specs.declared.Rounding.TheVariants.{Down, Up}
use Rattle.model.specs.Scale.{S, quotient}
use Rattle.model.specs.Sums.{sum, total}
use Rattle.model.specs.Plan.{nth}
use Rattle.model.specs.MonthRule.{Row, claim_sum, month, exact_month}
use Rattle.model.specs.SplitMonth.{split_parts, split_month}
use Rattle.model.specs.Bounds.{month_gap, largest, MonthLimits}
use Rattle.model.proofs.SumLaws.{sum_ext}
use Rattle.model.proofs.Quotients.{Direction, times_right, quotient_le, quotient_gap, quotient_whole, quotient_add, quotient_twice}

pub scale_positive : 0 < S
unfolding S
scale_positive = omega arith

pub square_positive : 0 < S * S
square_positive = mul-pos scale_positive scale_positive

-- A month with a chance of 0 only leads up by the income: its exact value is the quiet row's there, in parts of S × S.
pub idle_month : (income : ℕ) (F : List ℕ) (X Y : Row) (s : ℕ) → exact_month income F 0 X Y s ≡ S * S * X (s + income)
unfolding exact_month
idle_month income F X Y s = simp (sub-zero, zero-mul, add-zero)

-- the claim sum by recursion on the severity list and the level
pub claim_sum_none : (Y : Row) (r : ℕ) → claim_sum [] Y r ≡ 0
unfolding claim_sum sum
claim_sum_none Y r = rw min-zero

-- a claim leaves a level above 0
pub claim_sum_ground : (F : List ℕ) (Y : Row) (r : ℕ) → r ≤ 1 → claim_sum F Y r ≡ 0
unfolding claim_sum sum
claim_sum_ground F Y r l = let none : min (r - 1) (length F) ≡ 0 = omega arith in ap (λ (n : ℕ). sum n (λ x. nth F x * Y (r - x))) none

pub claim_sum_cons : (f : ℕ) (F : List ℕ) (Y : Row) (r : ℕ) → claim_sum (f ∷ F) Y (suc (suc r)) ≡ f * Y (suc r) + claim_sum F Y (suc r)
unfolding claim_sum sum nth
claim_sum_cons f F Y r =
    rw (less, suc-min-suc)
    (ap₂ (λ (a b : ℕ). f * Y a + b) less
    (ap (λ (n : ℕ). sum (min n (length F)) (λ x. nth (f ∷ F) (suc x) * Y (suc (suc r) - suc x))) (sym least)
    ∙ sum_ext (min (suc r - 1) (length F)) (λ x. nth (f ∷ F) (suc x) * Y (suc (suc r) - suc x)) (λ x. nth F x * Y (suc r - x)) rest))
  where
    less : suc (suc r) - 1 ≡ suc r
    less = omega arith

    least : suc r - 1 ≡ r
    least = omega arith

    lower : (i : ℕ) → suc (suc r) - suc (suc i) ≡ suc r - suc i
    lower i = omega arith

    rest : (i : ℕ) → i < min (suc r - 1) (length F) → get_or F i 0 * Y (suc (suc r) - suc (suc i)) ≡ get_or F i 0 * Y (suc r - suc i)
    rest i l = ap (λ (a : ℕ). get_or F i 0 * Y a) (lower i)

-- A relation between the claim sums over two rows, which may speak of the weights passed: it holds if it holds of nothing and of one term more, whose level
-- lies below the one at which the claim comes.
claim_sum_rel_below :
    (R : ℕ → ℕ → ℕ → Type 0) (Y Z : Row) (top : ℕ) →
    ((w : ℕ) → R w 0 0) →
    ((f w a b s : ℕ) → s < top → R w a b → R (f + w) (f * Y s + a) (f * Z s + b)) →
    (F : List ℕ) (s : ℕ) → s ≤ top → R (total F) (claim_sum F Y s) (claim_sum F Z s)
unfolding total
claim_sum_rel_below R Y Z top none more [] s l = rw (claim_sum_none Y s, claim_sum_none Z s) (none 0)
claim_sum_rel_below R Y Z top none more (f ∷ F) zero l =
    rw (claim_sum_ground (f ∷ F) Y 0 zero-le, claim_sum_ground (f ∷ F) Z 0 zero-le) (none (f + total F))
claim_sum_rel_below R Y Z top none more (f ∷ F) (suc zero) l =
    rw (claim_sum_ground (f ∷ F) Y 1 (le_refl 1), claim_sum_ground (f ∷ F) Z 1 (le_refl 1)) (none (f + total F))
claim_sum_rel_below R Y Z top none more (f ∷ F) (suc (suc s)) l =
    rw (claim_sum_cons f F Y s, claim_sum_cons f F Z s)
    (more f (total F) (claim_sum F Y (suc s)) (claim_sum F Z (suc s)) (suc s) l (claim_sum_rel_below R Y Z top none more F (suc s) (omega arith)))

-- at every level
pub claim_sum_rel :
    (R : ℕ → ℕ → ℕ → Type 0) (Y Z : Row) →
    ((w : ℕ) → R w 0 0) →
    ((f w a b s : ℕ) → R w a b → R (f + w) (f * Y s + a) (f * Z s + b)) →
    (F : List ℕ) (s : ℕ) → R (total F) (claim_sum F Y s) (claim_sum F Z s)
claim_sum_rel R Y Z none more F s = claim_sum_rel_below R Y Z s none (λ f w a b r l. more f w a b r) F s (le_refl s)

-- rows that are at most g above others at each level have claim sums of at most g above theirs, for each part of S
pub claim_sum_le :
    (F : List ℕ) → total F ≤ S → (Y Z : Row) (g : ℕ) → ((s : ℕ) → Y s ≤ Z s + g) → (s : ℕ) → claim_sum F Y s ≤ claim_sum F Z s + S * g
claim_sum_le F hF Y Z g h s =
    omega (arith, claim_sum_rel (λ w a b. a ≤ b + w * g) Y Z (λ w. omega arith) more F s, mul-le-mul_right g hF)
  where
    more : (f w a b s : ℕ) → a ≤ b + w * g → f * Y s + a ≤ f * Z s + b + (f + w) * g
    more f w a b s l = omega (arith, simp mul-add at (mul-le-mul_left f (h s)), add-mul f w g)

-- a claim after which nothing counts adds nothing
pub claim_sum_zero : (F : List ℕ) (s : ℕ) → claim_sum F (λ _. 0) s ≡ 0
claim_sum_zero F s = claim_sum_rel (λ w a b. a ≡ 0) (λ _. 0) (λ _. 0) (λ w. refl) (λ f w a b i e. omega (arith, mul-zero f)) F s

-- values of at most B at each level below the claim's have a claim sum of at most B for each part of weight
pub claim_sum_bound : (F : List ℕ) (Y : Row) (B s : ℕ) → ((r : ℕ) → r < s → Y r ≤ B) → claim_sum F Y s ≤ total F * B
claim_sum_bound F Y B s h =
    claim_sum_rel_below (λ w a b. a ≤ w * B) Y Y s (λ w. zero-le) (λ f w a b r l m. omega (arith, mul-le-mul_left f (h r l), add-mul f w B)) F s (le_refl s)

-- so that of an accepted plan's weights over values in parts of S does not pass S × S
pub claim_sum_fits : (F : List ℕ) (Y : Row) → total F ≤ S → ((s : ℕ) → Y s ≤ S) → (s : ℕ) → claim_sum F Y s ≤ S * S
claim_sum_fits F Y hF hY s = le_trans (claim_sum_bound F Y S s (λ r l. hY r)) (mul-le-mul_right S hF)

module _ {rel : ℕ → ℕ → Type 0} {round : Rounding} (d : Direction rel round) where
  open d use {same, then, plus, times, rounds}

  -- the claim sums over rows that enclose, at the rows' scale D
  claim_sum_encloses :
      (F : List ℕ) (Y E : Row) (D : ℕ) → ((s : ℕ) → rel (Y s * D) (E s)) → (s : ℕ) → rel (claim_sum F Y s * D) (claim_sum F E s)
  claim_sum_encloses F Y E D h =
      claim_sum_rel (λ w a b. rel (a * D) b) Y E (λ w. rw zero-mul (same 0)) more F
    where
      more : (f w a b s : ℕ) → rel (a * D) b → rel ((f * Y s + a) * D) (f * E s + b)
      more f w a b s r = rw (add-mul, mul_assoc) (plus (times f (h s)) r)

  -- A month encloses the exact month if its rows enclose the exact rows: at the rows' scale D, and then at S × S × D.
  pub month_encloses :
      (income : ℕ) (F : List ℕ) (P : ℕ) (X Y EX EY : Row) (D : ℕ) →
      ((s : ℕ) → rel (X s * D) (EX s)) → ((s : ℕ) → rel (Y s * D) (EY s)) →
      (s : ℕ) → rel (month round income F P X Y s * (S * (S * D))) (exact_month income F P EX EY s)
  unfolding month exact_month
  month_encloses income F P X Y EX EY D hx hy s =
      rw (← mul_assoc S S D, ← mul_assoc (month round income F P X Y s) (S * S) D)
      (then (times_right d D (rounds (exact_month income F P X Y s) (S * S) square_positive))
      (rw (add-mul ((S - P) * S * X (s + income)) (P * C) D, mul_assoc ((S - P) * S) (X (s + income)) D, mul_assoc P C D)
      (plus (times ((S - P) * S) (hx (s + income))) (times P (claim_sum_encloses F Y EY D hy (s + income))))))
    where
      C : ℕ
      C = claim_sum F Y (s + income)

-- one weight is at most all of them
pub nth_le_total : (F : List ℕ) (x : ℕ) → nth F x ≤ total F
unfolding nth total
nth_le_total F zero = omega arith
nth_le_total [] (suc i) = omega arith
nth_le_total (f ∷ F) (suc zero) = omega arith
nth_le_total (f ∷ F) (suc (suc i)) = omega (arith, nth_le_total F (suc i))

-- What a month works out at a level, where no value of its rows is above S: nothing passes S × S, and the value is at most S again.
pub record MonthFits (round : Rounding) (income : ℕ) (F : List ℕ) (P : ℕ) (X Y : Row) (s : ℕ) : Type 0 where
  pub products : (x r : ℕ) → nth F x * Y r ≤ S * S
  pub claims : claim_sum F Y (s + income) ≤ S * S
  pub left : P * (claim_sum F Y (s + income) % S) ≤ S * S
  pub parts : split_parts round P (X (s + income)) (claim_sum F Y (s + income) / S) (claim_sum F Y (s + income) % S) ≤ S * S
  pub value : month round income F P X Y s ≤ S

-- a mixture of two numbers of at most B, by parts of S, is at most B parts of S
pub mixture_le : (P a b B : ℕ) → P ≤ S → a ≤ B → b ≤ B → (S - P) * a + P * b ≤ S * B
mixture_le P a b B hP ha hb =
    omega (
      arith,
      mul-le-mul_left (S - P) ha,
      mul-le-mul_left P hb,
      sym (add-mul (S - P) P B),
      ap (λ (n : ℕ). n * B) (sub-add_cancel hP),
    )

-- a mixture keeps income how far its two numbers lie above two others
pub mixture_keeps : (P a b a' b' g : ℕ) → P ≤ S → a ≤ a' + g → b ≤ b' + g → (S - P) * a + P * b ≤ (S - P) * a' + P * b' + S * g
mixture_keeps P a b a' b' g hP ha hb =
    omega (
      arith,
      simp mul-add at (mul-le-mul_left (S - P) ha),
      simp mul-add at (mul-le-mul_left P hb),
      mixture_le P g g g hP (le_refl g) (le_refl g),
    )

-- A month's exact value is at most the largest value that it reads: the level above of the quiet row, and the levels below that of the claimed row.
pub exact_month_le :
    (income : ℕ) (F : List ℕ) → total F ≤ S → (P : ℕ) → P ≤ S → (X Y : Row) (B s : ℕ) →
    X (s + income) ≤ B → ((r : ℕ) → r < s + income → Y r ≤ B) → exact_month income F P X Y s ≤ S * (S * B)
unfolding exact_month
exact_month_le income F hF P hP X Y B s hX hY =
    rw (mul_assoc (S - P) S (X (s + income)))
    (mixture_le P (S * X (s + income)) (claim_sum F Y (s + income)) (S * B) hP (mul-le-mul_left S hX)
    (le_trans (claim_sum_bound F Y B (s + income) hY) (mul-le-mul_right B hF)))

-- So is its value, whichever way it is rounded.
pub month_le :
    (round : Rounding) (income : ℕ) (F : List ℕ) → total F ≤ S → (P : ℕ) → P ≤ S → (X Y : Row) (B s : ℕ) →
    X (s + income) ≤ B → ((r : ℕ) → r < s + income → Y r ≤ B) → month round income F P X Y s ≤ B
unfolding month
month_le round income F hF P hP X Y B s hX hY =
    quotient_le round _ (S * S) B square_positive (rw (mul_assoc S S B) (exact_month_le income F hF P hP X Y B s hX hY))

-- Rows that are at most g above others have an exact value of at most g above theirs.
pub exact_month_keeps :
    (income : ℕ) (F : List ℕ) → total F ≤ S → (P : ℕ) → P ≤ S → (X Y X' Y' : Row) (g : ℕ) → ((s : ℕ) → X s ≤ X' s + g) → ((s : ℕ) → Y s ≤ Y' s + g) →
    (s : ℕ) → exact_month income F P X Y s ≤ exact_month income F P X' Y' s + S * (S * g)
unfolding exact_month
exact_month_keeps income F hF P hP X Y X' Y' g hX hY s =
    rw (mul_assoc (S - P) S (X (s + income)), mul_assoc (S - P) S (X' (s + income)))
    (mixture_keeps P (S * X (s + income)) (claim_sum F Y (s + income)) (S * X' (s + income)) (claim_sum F Y' (s + income)) (S * g) hP
    (simp mul-add at (mul-le-mul_left S (hX (s + income))))
    (claim_sum_le F hF Y Y' g hY (s + income)))

-- A month from the claim sum's quotient A by S and what is left over, R.
module _ (round : Rounding) (P X A R : ℕ) where
  apart : (S - P) * S * X + P * (A * S + R) ≡ ((S - P) * X + P * A) * S + P * R
  apart =
      omega (arith, mul_right_comm (S - P) S X, add-mul ((S - P) * X) (P * A) S, mul_assoc P A S, mul-add P (A * S) R)

  -- its quotient by S, rounded, is a sum of small numbers …
  parts_are : quotient round ((S - P) * S * X + P * (A * S + R)) S ≡ split_parts round P X A R
  unfolding split_parts
  parts_are =
      ap (λ (n : ℕ). quotient round n S) apart
      ∙ quotient_add round ((S - P) * X + P * A) (P * R) S scale_positive

  -- … and that divided by S once more is the quotient by S × S, whichever way they are rounded.
  pub split_is : quotient round ((S - P) * S * X + P * (A * S + R)) (S * S) ≡ split_month round P X A R
  unfolding split_month
  split_is =
      sym (quotient_twice round ((S - P) * S * X + P * (A * S + R)) S S scale_positive scale_positive)
      ∙ ap (λ (n : ℕ). quotient round n S) parts_are

  -- over numbers that do not pass S, or S × S for the claim sum
  module _ (hP : P ≤ S) (hX : X ≤ S) (hC : A * S + R ≤ S * S) where
    exact_fits : (S - P) * S * X + P * (A * S + R) ≤ S * (S * S)
    exact_fits = rw (mul_assoc (S - P) S X) (mixture_le P (S * X) (A * S + R) (S * S) hP (mul-le-mul_left S hX) hC)

    pub parts_fit : split_parts round P X A R ≤ S * S
    parts_fit = rw (← parts_are) (quotient_le round _ S (S * S) scale_positive exact_fits)

    pub value_fits : quotient round ((S - P) * S * X + P * (A * S + R)) (S * S) ≤ S
    value_fits = quotient_le round _ (S * S) S square_positive (rw (mul_assoc S S S) exact_fits)

-- Document 02: what is worked out in machine numbers is the month, the exact quotient by S × S.
pub month_split :
    (round : Rounding) (income : ℕ) (F : List ℕ) (P : ℕ) (X Y : Row) (s : ℕ) →
    month round income F P X Y s
    ≡ split_month round P (X (s + income)) (claim_sum F Y (s + income) / S) (claim_sum F Y (s + income) % S)
unfolding month exact_month
month_split round income F P X Y s =
    ap (λ (C : ℕ). quotient round ((S - P) * S * X (s + income) + P * C) (S * S)) (sym (div-add-mod' (claim_sum F Y (s + income)) S))
    ∙ split_is round P (X (s + income)) (claim_sum F Y (s + income) / S) (claim_sum F Y (s + income) % S)

pub month_fits :
    (round : Rounding) (income : ℕ) (F : List ℕ) → total F ≤ S → (P : ℕ) → P ≤ S →
    (X Y : Row) → ((s : ℕ) → X s ≤ S) → ((s : ℕ) → Y s ≤ S) → (s : ℕ) → MonthFits round income F P X Y s
unfolding month exact_month
month_fits round income F hF P hP X Y hX hY s =
    record {
      products = λ x r. mul-le-mul (le_trans (nth_le_total F x) hF) (hY r);
      claims = c;
      left = mul-le-mul hP (let l : C % S < S = mod-lt C scale_positive in omega arith);
      parts = parts_fit round P (X (s + income)) (C / S) (C % S) hP (hX (s + income)) whole;
      value = rw (div-add-mod' C S) at (value_fits round P (X (s + income)) (C / S) (C % S) hP (hX (s + income)) whole);
    }
  where
    C : ℕ
    C = claim_sum F Y (s + income)

    c : C ≤ S * S
    c = claim_sum_fits F Y hF hY (s + income)

    whole : C / S * S + C % S ≤ S * S
    whole = rw (div-add-mod' C S) c

-- with what rounding up adds
pub limit : (x : ℕ) → x ≤ S * S → x + (S - 1) ≤ largest
unfolding S largest
limit x h = omega arith

pub scale_limit : S ≤ largest
unfolding S largest
scale_limit = omega arith

pub month_limited : {round : Rounding} {income : ℕ} {F : List ℕ} {P : ℕ} {X Y : Row} {s : ℕ} → MonthFits round income F P X Y s → MonthLimits round income F P X Y s
month_limited fits =
    record {
      product = λ x r. omega (arith, limit _ (fits.products x r));
      claim_total = omega (arith, limit _ fits.claims);
      left_total = limit _ fits.left;
      month_total = limit _ fits.parts;
    }

-- Upper rows that are at most g above the lower rows give an upper value at most g and a month's allowance above the lower one …
pub month_gap_live :
    (income : ℕ) (F : List ℕ) → total F ≤ S → (P : ℕ) → P ≤ S → (X Y X' Y' : Row) (g : ℕ) →
    ((s : ℕ) → X' s ≤ X s + g) → ((s : ℕ) → Y' s ≤ Y s + g) →
    (s : ℕ) → month Up income F P X' Y' s ≤ month Down income F P X Y s + (g + month_gap)
unfolding month
month_gap_live income F hF P hP X Y X' Y' g hX hY s =
    quotient_gap (exact_month income F P X Y s) (exact_month income F P X' Y' s) (S * S) g square_positive
    (rw (mul_assoc S S g) (exact_month_keeps income F hF P hP X' Y' X Y g hX hY s))

-- … and no further above it in a month with chance 0.
pub month_gap_idle :
    (income : ℕ) (F : List ℕ) (X Y X' Y' : Row) (g : ℕ) → ((s : ℕ) → X' s ≤ X s + g) →
    (s : ℕ) → month Up income F 0 X' Y' s ≤ month Down income F 0 X Y s + g
unfolding month
month_gap_idle income F X Y X' Y' g hX s =
    rw (idle_month income F X Y s, idle_month income F X' Y' s) (quotient_whole (X (s + income)) (X' (s + income)) (S * S) g square_positive (hX (s + income)))

-- a factor common to all values of a row
pub claim_sum_times : (F : List ℕ) (Y : Row) (k s : ℕ) → claim_sum F Y s * k ≡ claim_sum F (λ r. Y r * k) s
claim_sum_times F Y k =
    claim_sum_rel (λ w a b. a * k ≡ b) Y (λ r. Y r * k) (λ w. zero-mul k)
    (λ f w a b s e. rw (add-mul, mul_assoc) (ap (λ (y : ℕ). f * (Y s * k) + y) e)) F
