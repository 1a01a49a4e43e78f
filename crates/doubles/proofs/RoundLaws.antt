-- How far above its fraction a double in 0 to 1 can be rounded: by at most 2^-52. Sizes are in units of 2^-1074, of which every double is a whole number.
use Prim.Native.Nat.{ℕ, ◌+◌, ◌*◌, ◌-◌, ◌/◌, ◌%◌, ◌^◌, ◌≤◌, ◌<◌, compare}
use mathlib.Core.Path.{◌≡◌, refl, sym, ap, ap₂, ◌∙◌, subst}
use mathlib.Core.Bool.{Bool, true, false}
use native.Mathlib.Nat.{le_trans, le_of_eq, lt_of_le_of_lt, mul-le-mul_left, mul-le-mul_right, mul_comm, mul_assoc, mul_right_comm, suc-mul, add-mul, div-mul-le_self, div-le_of_le-mul, le_of_mul-le-mul_right, one-mul, mul-pos, mul-le-mul}
use native.Mathlib.Omega.{arith}
use lib.Dec.{lit<}
use lib.Pow.{pow_mono, pow-lt}
use lib.Ieee.{Float, nan, inf, fin, binary64, up, down, unlike, size, round, sum, neg, add, sub, mul}
use lib.Ieee.Digits.{Equals, size-le}
use lib.Ieee.Exact.{HasValue, units_val}
use lib.Ieee.Fits.{nearest-le, round_is, down_pos}
use lib.Ieee.Order.{drop, kept}
use lib.Ieee.Positive.{num, den}
use borrow.Author.Tests.{le-ltb}
use Rattle.doubles.specs.Doubles.{one, within}
use Rattle.doubles.proofs.RangeLaws.{Unit, unit}

-- a value's size alone
pub sized : (x : Float) (s : Bool) (a c : ℕ) → HasValue x s a c → Equals x a c
sized nan s a c v = v
sized (inf t) s a c v = v
sized (fin t m e) s a c v = v.1

module _ (a c : ℕ) (some : 0 < c) (small : a ≤ c) where
  abbrev n : ℕ
  n = a * 2 ^ 1074

  abbrev k : ℕ
  k = drop 53 n c

  -- the rounded size
  abbrev rounded : ℕ
  rounded = kept 53 n c * 2 ^ k

  -- it drops few enough digits
  dropped : k ≤ 1022
  dropped = few (size (n / c)) (size-le (n / c) 1075 (lt_of_le_of_lt (div-le_of_le-mul c (mul-le-mul_right (2 ^ 1074) small)) (pow-lt {i = 1074} {j = 1075} (lit< tt))))
    where
      few : (z : ℕ) → z ≤ 1075 → z - 53 ≤ 1022
      few z h = omega arith

  -- what is kept is at most one more than the quotient
  kept_most : kept 53 n c * (c * 2 ^ k) ≤ n + c * 2 ^ k
  kept_most =
      let u = c * 2 ^ k in
      le_trans (mul-le-mul_right u (nearest-le (n / u) (compare (n % u * 2) u)))
      (le_trans (le_of_eq (suc-mul (n / u) u)) (add_right (n / u * u) n u (div-mul-le_self n u)))
    where
      add_right : (x y u : ℕ) → x ≤ y → x + u ≤ y + u
      add_right x y u h = omega arith

  rounded_most : rounded * c ≤ n + 2 ^ 1022 * c
  rounded_most =
      le_trans
      (le_of_eq (mul_right_comm (kept 53 n c) (2 ^ k) c ∙ mul_assoc (kept 53 n c) c (2 ^ k)))
      (le_trans kept_most (add_left n (c * 2 ^ k) (2 ^ 1022 * c) (le_trans (mul-le-mul_left c (pow_mono dropped)) (le_of_eq (mul_comm c (2 ^ 1022))))))
    where
      add_left : (y u v : ℕ) → u ≤ v → y + u ≤ y + v
      add_left y u v h = omega arith

  -- so it does not overflow
  fits : rounded < 2 ^ 2098
  fits =
      lt_of_le_of_lt
      (le_of_mul-le-mul_right
      (le_trans rounded_most (sum_most n (2 ^ 1022) (2 ^ 1074) (mul-le-mul_right (2 ^ 1074) small)))
      some)
      (lit< tt)
    where
      sum_most : (n e d : ℕ) → n ≤ c * d → n + e * c ≤ (d + e) * c
      sum_most n e d h = omega (arith, add-mul d e c, mul_comm c d)

  pub rounded_above :
      (s : Bool) → (w : ℕ) × Equals (round binary64 s a c) w (2 ^ 1074) × (w * c ≤ a * 2 ^ 1074 + 2 ^ 1022 * c)
  rounded_above s = (
    rounded,
    sized (round binary64 s a c) s rounded (2 ^ 1074)
        (subst (λ (x : Float). HasValue x s rounded (2 ^ 1074)) (sym (round_is binary64 s a c)) (units_val binary64 s (kept 53 n c) k fits)),
    rounded_most,
  )

-- ---- 1 less a double in 0 to 1, and the product of two, by their sizes

pub rest_above :
    (x : Float) → within x ≡ true →
    (w : ℕ) × Equals (sub binary64 one x) w (2 ^ 1074) × (w * den x ≤ (den x - num x) * 2 ^ 1074 + 2 ^ 1022 * den x)
unfolding sub add neg sum
rest_above x h = go x (unit x h)
  where
    -- the fraction as the sum has it
    tidy : (w d a n D E : ℕ) → a ≡ d - n → w * (1 * d) ≤ a * D + E * (1 * d) → w * d ≤ (d - n) * D + E * d
    tidy w d a n D E is l = subst (λ k. w * k ≤ (d - n) * D + E * k) (one-mul d) (subst (λ k. w * (1 * d) ≤ k * D + E * (1 * d)) is l)

    go :
        (x : Float) → Unit x →
        (w : ℕ) × Equals (sub binary64 one x) w (2 ^ 1074) × (w * den x ≤ (den x - num x) * 2 ^ 1074 + 2 ^ 1022 * den x)
    go nan u = absurd u
    go (inf s) u = absurd u
    go (fin true m e) u =
        let r = rounded_above (1 * down e + m * up e * 1) (1 * down e) (omega (arith, down_pos e)) (omega (arith, u.1 refl)) false in
        (r.0, r.1, tidy r.0 (down e) (1 * down e + m * up e * 1) (m * up e) (2 ^ 1074) (2 ^ 1022) (omega (arith, u.1 refl)) r.2)
    go (fin false m e) u =
        let r = rounded_above (1 * down e - m * up e * 1) (1 * down e) (omega (arith, down_pos e)) (omega arith) false in
        rw (le-ltb (1 * down e) (m * up e * 1) (omega (arith, u.0)))
        (r.0, r.1, tidy r.0 (down e) (1 * down e - m * up e * 1) (m * up e) (2 ^ 1074) (2 ^ 1022) (omega arith) r.2)

pub product_above :
    (x y : Float) → within x ≡ true → within y ≡ true → (v : ℕ) → Equals x v (2 ^ 1074) →
    (w : ℕ) × Equals (mul binary64 x y) w (2 ^ 1074) × (w * den y ≤ v * num y + 2 ^ 1022 * den y)
unfolding mul
product_above x y h k = go x y (unit x h) (unit y k)
  where
    -- x's own fraction leaves
    cancel :
        (w v nx dx ny dy D E : ℕ) → 0 < dx → nx * D ≡ v * dx → w * (dx * dy) ≤ nx * ny * D + E * (dx * dy) → w * dy ≤ v * ny + E * dy
    cancel w v nx dx ny dy D E some is l =
        let left : w * dy * dx ≡ w * (dx * dy) = mul_assoc w dy dx ∙ ap (λ k. w * k) (mul_comm dy dx) in
        let right : (v * ny + E * dy) * dx ≡ v * dx * ny + E * (dx * dy) =
        add-mul (v * ny) (E * dy) dx ∙ ap₂ ◌+◌ (mul_right_comm v ny dx) (mul_assoc E dy dx ∙ ap (λ k. E * k) (mul_comm dy dx)) in
        let middle : nx * ny * D ≡ v * dx * ny = mul_right_comm nx ny D ∙ ap (λ k. k * ny) is in
        le_of_mul-le-mul_right (omega arith) some

    go :
        (x y : Float) → Unit x → Unit y → (v : ℕ) → Equals x v (2 ^ 1074) →
        (w : ℕ) × Equals (mul binary64 x y) w (2 ^ 1074) × (w * den y ≤ v * num y + 2 ^ 1022 * den y)
    go nan y u t v e = absurd u
    go (inf s) y u t v e = absurd u
    go (fin s m a) nan u t v e = absurd t
    go (fin s m a) (inf r) u t v e = absurd t
    go (fin s m a) (fin r n b) u t v e =
        let z = rounded_above (m * up a * (n * up b)) (down a * down b) (mul-pos (down_pos a) (down_pos b)) (mul-le-mul u.0 t.0) (unlike s r) in
        (z.0, z.1, cancel z.0 v (m * up a) (down a) (n * up b) (down b) (2 ^ 1074) (2 ^ 1022) (down_pos a) e z.2)
