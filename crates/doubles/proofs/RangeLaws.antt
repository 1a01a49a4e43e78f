-- Doubles in 0 to 2^k: what the tests say of such a double. In 0 to 1: that 1 less such a double and the product of two, each rounded once, are such doubles.
use Prim.Native.Nat.{ℕ, ◌+◌, ◌*◌, ◌-◌, ◌^◌, ◌≤◌, ◌<◌, zero-le}
use mathlib.Core.Path.{◌≡◌, refl, sym, ap, ◌∙◌, subst}
use mathlib.Core.Logic.{◌⊎◌, inl, inr, ⊎_elim}
use mathlib.Core.Bool.{Bool, true, false, ◌&&◌, ◌||◌}
use native.Mathlib.Nat.{zero-mul, mul-zero, one-mul, zero-lt-suc, mul-pos, mul-le-mul, mul-le-mul_right, mul_right_comm, le_trans, le_of_eq, le_of_mul-le-mul_right, eq_of_mul-eq-mul_right}
use native.Mathlib.Omega.{arith}
use borrow.Author.Tests.{le-ltb, ltb-false}
use lib.IntN.{ℤ, pos}
use lib.Dec.{T, ltb, eqb, eqb→eq, ltb→lt, lt→ltb, lit≤}
use lib.Pow.{pow_pos}
use lib.Ieee.{Float, nan, inf, fin, binary64, up, down, unlike, below, round, sum, neg, add, sub, mul, le, lt, eq, fits, of_bits}
use lib.Ieee.Fits.{down_pos, eq→eqb, and_i, and_l, and_r, round-fits}
use lib.Ieee.Bits.{is_true}
use lib.Ieee.Exact.{HasValue, round_exact}
use lib.Ieee.Order.{le_of_values, round_mono}
use lib.Ieee.Positive.{num, den}
use lib.Ieee.Scale.{finite}
use lib.Ieee.Back.{round_whole, whole_unique}
use Rattle.doubles.specs.Doubles.{nought, one, scale, within}

-- ---- tests and what they say

pub yes : {b : Bool} → b ≡ true → T b
yes h = subst T (sym h) tt

no : {b : Bool} → b ≡ false → T b → ⊥
no h t = subst T h t

either : (a b : Bool) → T (a || b) → T a ⊎ T b
either true b t = inl tt
either false b t = inr t

or_l : (a b : Bool) → T a → T (a || b)
or_l true b t = tt
or_l false b t = absurd t

both_hold : (x : Float) → T (le nought x) → T (le x one) → within x ≡ true
unfolding within
both_hold x least most = is_true _ (and_i (le nought x) (le x one) least most)

-- less, or equal
less_or_equal : (a b : ℕ) → T (ltb a b || (eqb a b && true)) → a ≤ b
less_or_equal a b t =
    ⊎_elim
    (λ l. omega (arith, ltb→lt a b l))
    (λ e. le_of_eq (eqb→eq a b (and_l (eqb a b) true e)))
    (either (ltb a b) (eqb a b && true) t)

-- no positive size equals a negative one but 0
equal_zero : (a b : ℕ) → T (false || (eqb a b && (false || eqb a 0))) → b ≡ 0
equal_zero a b t = sym (eqb→eq a b (and_l (eqb a b) (eqb a 0) t)) ∙ eqb→eq a 0 (and_r (eqb a b) (eqb a 0) t)

-- ---- the doubles that the code names, by their bits

pub literal_zero : of_bits binary64 0 ≡ nought
unfolding of_bits
literal_zero = refl

pub literal_one : of_bits binary64 0x3ff0_0000_0000_0000 ≡ one
unfolding of_bits
literal_one = refl

pub literal_scale : of_bits binary64 0x41d0_0000_0000_0000 ≡ scale
unfolding of_bits
literal_scale = refl

-- ---- a double in 0 to 2^k

abbrev two_to : ℕ → Float
two_to k = fin false 1 (pos k)

-- its size is at most 2^k, and a negative one is a zero
abbrev pub UpTo : ℕ → Float → Type 0
UpTo k nan = ⊥
UpTo k (inf s) = ⊥
UpTo k (fin s m e) = (m * up e ≤ 2 ^ k * down e) × (s ≡ true → m * up e ≡ 0)

pub up_to : (k : ℕ) (x : Float) → T (le nought x) → T (le x (two_to k)) → UpTo k x
unfolding le lt eq
up_to k nan least most = absurd least
up_to k (inf true) least most = absurd least
up_to k (inf false) least most = absurd most
up_to k (fin true m e) least most =
    let size : m * up e * 1 ≡ 0 = equal_zero (0 * down e) (m * up e * 1) least in
    (omega arith, λ _. omega arith)
up_to k (fin false m e) least most =
    let size : m * up e * 1 ≤ 1 * 2 ^ k * down e = less_or_equal (m * up e * 1) (1 * 2 ^ k * down e) most in
    (omega (arith, ap (λ (p : ℕ). p * down e) (one-mul (2 ^ k))), λ n. absurd (no refl (yes n)))

-- and back
pub up_to_back : (k : ℕ) (x : Float) → UpTo k x → T (le nought x) × T (le x (two_to k))
unfolding le lt eq
up_to_back k nan u = absurd u
up_to_back k (inf s) u = absurd u
up_to_back k (fin true m e) u =
    let same : 0 * down e ≡ m * up e * 1 = omega (arith, u.1 refl) in
    let some : 0 < 1 * 2 ^ k * down e = mul-pos (mul-pos (zero-lt-suc 0) (pow_pos k)) (down_pos e) in (
      and_i (eqb (0 * down e) (m * up e * 1)) (eqb (0 * down e) 0) (eq→eqb same) (eq→eqb (zero-mul (down e))),
      or_l (below true (m * up e * 1) false (1 * 2 ^ k * down e)) _ (lt→ltb 0 (m * up e * 1 + 1 * 2 ^ k * down e) (omega arith)),
    )
up_to_back k (fin false m e) u = (
  le_of_values nought (fin false m e) 0 1 (m * up e) (down e) (zero-lt-suc 0) (down_pos e) (refl, refl) (refl, refl) (omega arith),
  le_of_values (fin false m e) (two_to k) (m * up e) (down e) (2 ^ k) 1 (down_pos e) (zero-lt-suc 0) (refl, refl)
      (refl, ap (λ (p : ℕ). p * 1) (one-mul (2 ^ k)))
      (omega (arith, u.0)),
)

-- by a fraction that it is
pub up_to_value : (k : ℕ) (x : Float) (s : Bool) (a c : ℕ) → 0 < c → HasValue x s a c → a ≤ 2 ^ k * c → (s ≡ true → a ≡ 0) → UpTo k x
up_to_value k nan s a c some v most none = absurd v
up_to_value k (inf t) s a c some v most none = absurd v
up_to_value k (fin t m e) s a c some v most none = (
  le_of_mul-le-mul_right
      (le_trans (le_of_eq v.1) (le_trans (mul-le-mul_right (down e) most) (le_of_eq (mul_right_comm (2 ^ k) c (down e)))))
      some,
  λ n.
      eq_of_mul-eq-mul_right c some (m * up e) 0
      (v.1 ∙ ap (λ (p : ℕ). p * down e) (none (sym v.0 ∙ n)) ∙ zero-mul (down e) ∙ sym (zero-mul c)),
)

pub up_to_finite : (k : ℕ) (x : Float) → UpTo k x → T (finite x)
up_to_finite k nan u = u
up_to_finite k (inf s) u = u
up_to_finite k (fin s m e) u = tt

pub up_to_size : (k : ℕ) (x : Float) → UpTo k x → num x ≤ 2 ^ k * den x
up_to_size k nan u = absurd u
up_to_size k (inf s) u = absurd u
up_to_size k (fin s m e) u = u.0

-- ---- a double in 0 to 1

pub within_up_to : (x : Float) → within x ≡ true → UpTo 0 x
unfolding within
within_up_to x h = up_to 0 x (and_l (le nought x) (le x one) (yes h)) (and_r (le nought x) (le x one) (yes h))

-- its size is at most 1, and a negative one is a zero
abbrev pub Unit : Float → Type 0
Unit nan = ⊥
Unit (inf s) = ⊥
Unit (fin s m e) = (m * up e ≤ down e) × (s ≡ true → m * up e ≡ 0)

pub unit : (x : Float) → within x ≡ true → Unit x
unit x h = go x (within_up_to x h)
  where
    go : (x : Float) → UpTo 0 x → Unit x
    go nan u = u
    go (inf s) u = u
    go (fin s m e) u = (omega (arith, u.0), u.1)

pub within_small : (x : Float) → within x ≡ true → num x ≤ den x
within_small x h = omega (arith, up_to_size 0 x (within_up_to x h))

-- ---- back: a zero of either sign, and a double at which the test of alpha passes

zero_within : (s : Bool) (m : ℕ) (e : ℤ) → m * up e ≡ 0 → within (fin s m e) ≡ true
zero_within s m e z =
    let tests = up_to_back 0 (fin s m e) (omega arith, λ _. z) in
    both_hold (fin s m e) tests.0 tests.1

pub within_alpha : (x : Float) → lt x nought ≡ false → lt x one ≡ true → within x ≡ true
unfolding lt
within_alpha nan least most = absurd (yes most)
within_alpha (inf true) least most = absurd (no least tt)
within_alpha (inf false) least most = absurd (yes most)
within_alpha (fin true m e) least most =
    zero_within true m e (omega (arith, ltb-false 0 (m * up e * 1 + 0 * down e) least))
within_alpha (fin false m e) least most =
    both_hold (fin false m e)
    (le_of_values nought (fin false m e) 0 1 (m * up e) (down e) (zero-lt-suc 0) (down_pos e) (refl, refl) (refl, refl) (omega arith))
    (unfold le in or_l (lt (fin false m e) one) (eq (fin false m e) one) (yes most))

-- ---- what is rounded once

-- a fraction from 0 to 1
rounded_within : (a c : ℕ) → 0 < c → a ≤ c → within (round binary64 false a c) ≡ true
unfolding fits
rounded_within a c some small =
    both_hold (round binary64 false a c)
    (subst (λ (x : Float). T (le x (round binary64 false a c))) (whole 0 zero-le (refl, refl) tt) (round_mono binary64 0 1 a c (zero-lt-suc 0) some (omega arith)))
    (subst (λ (x : Float). T (le (round binary64 false a c) x)) (whole 1 (lit≤ tt) (refl, refl) tt) (round_mono binary64 a c 1 1 some (zero-lt-suc 0) (omega arith)))
  where
    whole : (n : ℕ) → n ≤ 2 ^ 53 → HasValue (fin false n (pos 0)) false n 1 → T (fits binary64 (fin false n (pos 0))) → round binary64 false n 1 ≡ fin false n (pos 0)
    whole n few value fit = whole_unique binary64 (round binary64 false n 1) (fin false n (pos 0)) false n (round-fits binary64 false n 1) fit (round_whole binary64 false n few) value

-- a zero is a zero of the same sign
pub rounded_zero : (s : Bool) (c : ℕ) → 0 < c → round binary64 s 0 c ≡ fin s 0 (pos 0)
unfolding fits
rounded_zero s c some =
    whole_unique binary64 (round binary64 s 0 c) (fin s 0 (pos 0)) s 0 (round-fits binary64 s 0 c) tt
    (whole (round binary64 s 0 c) (round_exact binary64 s 0 c 0 0 some (pow_pos 53) (pow_pos 2098) (sym (zero-mul c))))
    (refl, refl)
  where
    whole : (x : Float) → HasValue x s 0 c → HasValue x s 0 1
    whole nan v = v
    whole (inf t) v = v
    whole (fin t m e) v =
        let none : m * up e ≡ 0 = eq_of_mul-eq-mul_right c some (m * up e) 0 (v.1 ∙ zero-mul (down e) ∙ sym (zero-mul c)) in
        (v.0, ap (λ (k : ℕ). k * 1) none ∙ sym (zero-mul (down e)))

-- 1 less a double in 0 to 1
pub within_rest : (x : Float) → within x ≡ true → within (sub binary64 one x) ≡ true
unfolding sub add neg sum
within_rest x h = go x (unit x h)
  where
    go : (x : Float) → Unit x → within (sub binary64 one x) ≡ true
    go nan u = absurd u
    go (inf s) u = absurd u
    go (fin true m e) u = rounded_within (1 * down e + m * up e * 1) (1 * down e) (omega (arith, down_pos e)) (omega (arith, u.1 refl))
    go (fin false m e) u =
        rw (le-ltb (1 * down e) (m * up e * 1) (omega (arith, u.0)))
        (rounded_within (1 * down e - m * up e * 1) (1 * down e) (omega (arith, down_pos e)) (omega arith))

-- the product of two
pub within_product : (x y : Float) → within x ≡ true → within y ≡ true → within (mul binary64 x y) ≡ true
unfolding mul
within_product x y h k = go x y (unit x h) (unit y k)
  where
    none : (s t : Bool) (a c : ℕ) → a ≡ 0 → 0 < c → within (round binary64 (unlike s t) a c) ≡ true
    none s t a c z some =
        ap (λ (k : ℕ). within (round binary64 (unlike s t) k c)) z
        ∙ ap within (rounded_zero (unlike s t) c some)
        ∙ zero_within (unlike s t) 0 (pos 0) refl

    go : (x y : Float) → Unit x → Unit y → within (mul binary64 x y) ≡ true
    go nan y u v = absurd u
    go (inf s) y u v = absurd u
    go (fin s m e) nan u v = absurd v
    go (fin s m e) (inf t) u v = absurd v
    go (fin true m e) (fin t n d) u v =
        none true t _ _ (ap (λ (k : ℕ). k * (n * up d)) (u.1 refl) ∙ zero-mul (n * up d)) (mul-pos (down_pos e) (down_pos d))
    go (fin false m e) (fin true n d) u v =
        none false true _ _ (ap (λ (k : ℕ). m * up e * k) (v.1 refl) ∙ mul-zero (m * up e)) (mul-pos (down_pos e) (down_pos d))
    go (fin false m e) (fin false n d) u v =
        rounded_within (m * up e * (n * up d)) (down e * down d) (mul-pos (down_pos e) (down_pos d)) (mul-le-mul u.0 v.0)
