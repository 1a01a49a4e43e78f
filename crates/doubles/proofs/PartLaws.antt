-- The parts of a double in 0 to 1: its product with 2^30 is exact, and what a double in 0 to 2^30 is rounded down to is read from its bits, as the digits,
-- with the leading one put back, shifted by what the exponent leaves.
use Prim.Native.Nat.{ℕ, zero, suc, pred, ◌+◌, ◌*◌, ◌-◌, ◌/◌, ◌%◌, ◌^◌, ◌≤◌, ◌<◌}
use mathlib.Core.Path.{◌≡◌, refl, sym, ap, ◌∙◌, subst}
use mathlib.Core.Bool.{Bool, true, false, not, cond}
use native.Mathlib.Nat.{le_trans, le_of_eq, lt_of_lt_of_le, lt_of_le_of_lt, lt_of_not-le, lt_irrefl, le_of_suc-le-suc, le-add_right, zero-mul, mul-one, mul_comm, mul_assoc, mul_right_comm, mul-le-mul_right, le_of_mul-le-mul_right, mod-lt, div-eq_of_lt, div-le_of_le-mul}
use native.Mathlib.Omega.{arith}
use lib.Dec.{T, leb, eqb, lit<}
use lib.Pow.{pow-add, pow_pos, pow_mono, pow-lt, shl_lt, shl-shr, shr-shr, field}
use lib.Ieee.{Float, nan, inf, fin, binary64, up, down, unlike, odd, round, mul, le, fits, is_nan, of_fields, of_bits, to_bits}
use lib.Ieee.Fits.{down_pos}
use lib.Ieee.Bits.{is_true, of_bits-to_bits}
use lib.Ieee.Digits.{Equals, odd_val}
use lib.Ieee.Exact.{HasValue, round_exact}
use lib.Ieee.Nearest.{div_same}
use lib.Ieee.Positive.{num, den, den_pos}
use lib.Ieee.Scale.{finite}
use Rattle.model.specs.Scale.{S}
use Rattle.doubles.specs.Doubles.{nought, scale, within, parts}
use Rattle.doubles.proofs.RangeLaws.{Unit, UpTo, yes, unit, up_to, up_to_back, up_to_value, up_to_finite, up_to_size, within_up_to, within_small}
use Rattle.doubles.proofs.RoundLaws.{sized}

-- ---- by any fraction that the double's size is, whatever its sign

fraction : (x : Float) (a c : ℕ) → Equals x a c → num x * c ≡ a * den x
fraction nan a c v = absurd v
fraction (inf t) a c v = absurd v
fraction (fin t m e) a c v = v

pub parts_as : (x : Float) (a c : ℕ) → 0 < c → Equals x a c → parts x ≡ a * S / c
unfolding parts
parts_as x a c some v =
    div_same (num x * S) (den x) (a * S) c (den_pos x) some
    (mul_right_comm (num x) S c ∙ ap (λ (k : ℕ). k * S) (fraction x a c v) ∙ mul_right_comm a (den x) S)

whole_as : (x : Float) (a c : ℕ) → 0 < c → Equals x a c → num x / den x ≡ a / c
whole_as x a c some v = div_same (num x) (den x) a c (den_pos x) some (fraction x a c v)

size_as : (k : ℕ) (x : Float) (a c : ℕ) → UpTo k x → Equals x a c → a ≤ 2 ^ k * c
size_as k x a c u v =
    le_of_mul-le-mul_right
    (le_trans (le_of_eq (sym (fraction x a c v))) (le_trans (mul-le-mul_right c (up_to_size k x u)) (le_of_eq (mul_right_comm (2 ^ k) (den x) c))))
    (den_pos x)

-- no double in 0 to 1 has more than S parts
pub parts_fit : (x : Float) → within x ≡ true → parts x ≤ S
unfolding parts
parts_fit x h = div-le_of_le-mul (den x) (mul-le-mul_right S (within_small x h))

-- ---- what a pattern's exponent and digits are read as, in units of 2^-1074

-- the digits, with the leading one where there is one
unfoldable lead : ℕ → ℕ → ℕ
lead zero t = t
lead (suc j) t = 2 ^ 52 + t

abbrev units : ℕ → ℕ → ℕ
units e t = lead e t * 2 ^ pred e

lead_fits : (e t : ℕ) → t < 2 ^ 52 → lead e t < 2 ^ 53
unfolding lead
lead_fits zero t few = omega arith
lead_fits (suc j) t few = omega arith

read : (s : Bool) (e t : ℕ) → T (finite (of_fields binary64 s e t)) → Equals (of_fields binary64 s e t) (units e t) (2 ^ 1074)
unfolding of_fields lead
read s zero t u = odd_val 53 s t 0 1074
read s (suc j) t u = go (eqb (suc j) 2047) (eqb t 0) u
  where
    v : Float
    v = odd 53 s (2 ^ 52 + t) j 1074

    go : (a b : Bool) → T (finite (cond a (cond b (inf s) nan) v)) → Equals (cond a (cond b (inf s) nan) v) ((2 ^ 52 + t) * 2 ^ j) (2 ^ 1074)
    go true true u = absurd u
    go true false u = absurd u
    go false b u = odd_val 53 s (2 ^ 52 + t) j 1074

-- the exponent of a double of at most 2^30
exponent_within : (e t : ℕ) → units e t ≤ 2 ^ 1104 → e ≤ 1053
unfolding lead
exponent_within zero t h = omega arith
exponent_within (suc j) t h =
    let power : 2 ^ (52 + j) ≤ 2 ^ 1104 = le_trans (le_of_eq (pow-add 2 52 j)) (le_trans (mul-le-mul_right (2 ^ j) (le-add_right (2 ^ 52) t)) h) in
    back j (le_of_suc-le-suc (lt_of_not-le (λ (g : suc 1104 ≤ 52 + j). lt_irrefl (2 ^ 1104) (lt_of_lt_of_le (pow-lt g) power))))
  where
    back : (j : ℕ) → 52 + j ≤ 1104 → suc j ≤ 1053
    back j h = omega arith

-- below an exponent of 1023 it is less than 1
units_small : (e t : ℕ) → t < 2 ^ 52 → e < 1023 → units e t / 2 ^ 1074 ≡ 0
units_small e t few low = div-eq_of_lt (lt_of_lt_of_le (shl_lt 53 (pred e) (lead_fits e t few)) (pow_mono {i = 53 + pred e} {j = 1074} (places e low)))
  where
    places : (e : ℕ) → e < 1023 → 53 + pred e ≤ 1074
    places zero l = omega arith
    places (suc j) l = omega arith

-- from there on it is the shifted digits
units_shifted : (e t : ℕ) → 1023 ≤ e → e ≤ 1053 → (2 ^ 52 + t) / 2 ^ (1075 - e) ≡ units e t / 2 ^ 1074
unfolding lead
units_shifted zero t low high = absurd (omega arith)
units_shifted (suc j) t low high =
    let q = 2 ^ 52 + t in
    ap (λ (k : ℕ). q / 2 ^ k) by
    ∙ ap (λ (k : ℕ). k / 2 ^ (1074 - j)) (sym (shl-shr q j))
    ∙ shr-shr (q * 2 ^ j) j (1074 - j)
    ∙ ap (λ (k : ℕ). q * 2 ^ j / 2 ^ k) whole
  where
    by : 1075 - suc j ≡ 1074 - j
    by = omega arith

    whole : j + (1074 - j) ≡ 1074
    whole = omega arith

-- ---- the bits of a finite double

abbrev exponent : Float → ℕ
exponent x = to_bits binary64 x / 2 ^ 52 % 2048

abbrev digits : Float → ℕ
digits x = to_bits binary64 x % 2 ^ 52

digits_few : (x : Float) → digits x < 2 ^ 52
digits_few x = mod-lt (to_bits binary64 x) (pow_pos 52)

value : (x : Float) → T (fits binary64 x) → T (finite x) → Equals x (units (exponent x) (digits x)) (2 ^ 1074)
value x held number =
    subst (λ (y : Float). Equals y (units (exponent x) (digits x)) (2 ^ 1074)) fields_are
    (read negative (exponent x) (digits x) (subst (λ (y : Float). T (finite y)) (sym fields_are) number))
  where
    negative : Bool
    negative = leb (2 ^ 63) (to_bits binary64 x)

    fields_are : of_fields binary64 negative (exponent x) (digits x) ≡ x
    fields_are =
        ap (λ (k : ℕ). of_fields binary64 negative k (digits x)) (sym (field (to_bits binary64 x) 11 52))
        ∙ (unfold of_bits in of_bits-to_bits binary64 x held)

-- ---- rounded down, from the bits of a double in 0 to 2^30

is_number : (x : Float) → T (finite x) → T (not (is_nan x))
unfolding is_nan
is_number nan u = absurd u
is_number (inf s) u = absurd u
is_number (fin s m e) u = tt

module _ (x : Float) (held : T (fits binary64 x)) (least : le nought x ≡ true) (most : le x scale ≡ true) where
  range : UpTo 30 x
  range = up_to 30 x (yes least) (yes most)

  in_units : Equals x (units (exponent x) (digits x)) (2 ^ 1074)
  in_units = value x held (up_to_finite 30 x range)

  pub no_nan : T (not (is_nan x))
  no_nan = is_number x (up_to_finite 30 x range)

  pub exponent_fits : exponent x ≤ 1053
  exponent_fits = exponent_within (exponent x) (digits x) (size_as 30 x _ _ range in_units)

  whole_is : num x / den x ≡ units (exponent x) (digits x) / 2 ^ 1074
  whole_is = whole_as x _ _ (pow_pos 1074) in_units

  pub less_than_one : exponent x < 1023 → 0 ≡ num x / den x
  less_than_one low = sym (whole_is ∙ units_small (exponent x) (digits x) (digits_few x) low)

  pub shifted : 1023 ≤ exponent x → (2 ^ 52 + digits x) / 2 ^ (1075 - exponent x) ≡ num x / den x
  shifted high = units_shifted (exponent x) (digits x) high exponent_fits ∙ sym whole_is

  pub whole_fits : num x / den x ≤ 2 ^ 30
  whole_fits = div-le_of_le-mul (den x) (le_trans (up_to_size 30 x range) (le_of_eq (mul_comm (2 ^ 30) (den x))))

-- ---- the product of a double in 0 to 1 with 2^30

abbrev pub sign : Float → Bool
sign nan = false
sign (inf s) = s
sign (fin s m e) = s

-- of q × 2^j units, where q has no more digits than a double keeps
exact_by :
    (x : Float) (q j : ℕ) → q < 2 ^ 53 → q * 2 ^ j ≤ 2 ^ 1074 → Equals x (q * 2 ^ j) (2 ^ 1074) →
    HasValue (mul binary64 x scale) (sign x) (num x * 2 ^ 30) (den x)
unfolding mul
exact_by nan q j few most v = absurd v
exact_by (inf s) q j few most v = absurd v
exact_by (fin s m e) q j few most v =
    let product = round binary64 (unlike s false) (m * up e * 2 ^ 30) (down e * 1) in
    subst (λ (t : Bool). HasValue product t (m * up e * 2 ^ 30) (down e)) (own s)
    (subst (λ (d : ℕ). HasValue product (unlike s false) (m * up e * 2 ^ 30) d) (mul-one (down e))
    (round_exact binary64 (unlike s false) (m * up e * 2 ^ 30) (down e * 1) q (j + 30) (omega (arith, down_pos e)) few fine is))
  where
    own : (s : Bool) → unlike s false ≡ s
    own true = refl
    own false = refl

    higher : q * 2 ^ j * 2 ^ 30 ≡ q * 2 ^ (j + 30)
    higher = mul_assoc q (2 ^ j) (2 ^ 30) ∙ ap (λ (k : ℕ). q * k) (sym (pow-add 2 j 30))

    fine : q * 2 ^ (j + 30) < 2 ^ 2098
    fine = lt_of_le_of_lt (le_trans (le_of_eq (sym higher)) (mul-le-mul_right (2 ^ 30) most)) (lit< tt)

    is : m * up e * 2 ^ 30 * 2 ^ 1074 ≡ q * 2 ^ (j + 30) * (down e * 1)
    is =
        mul_right_comm (m * up e) (2 ^ 30) (2 ^ 1074)
        ∙ ap (λ (k : ℕ). k * 2 ^ 30) v
        ∙ mul_right_comm (q * 2 ^ j) (down e) (2 ^ 30)
        ∙ ap (λ (k : ℕ). k * down e) higher
        ∙ ap (λ (k : ℕ). q * 2 ^ (j + 30) * k) (sym (mul-one (down e)))

module _ (x : Float) (held : T (fits binary64 x)) (h : within x ≡ true) where
  -- "an exact product with 2^30": rounding it to a double changes nothing, at a subnormal neither, and a zero keeps its sign
  pub product_exact : HasValue (mul binary64 x scale) (sign x) (num x * 2 ^ 30) (den x)
  product_exact =
      let range = within_up_to x h in
      let in_units = value x held (up_to_finite 0 x range) in
      exact_by x _ _ (lead_fits (exponent x) (digits x) (digits_few x)) (size_as 0 x _ _ range in_units) in_units

  abbrev product : Float
  product = mul binary64 x scale

  pub product_within : (le nought product ≡ true) × (le product scale ≡ true)
  product_within =
      let tests = up_to_back 30 product (up_to_value 30 product (sign x) (num x * 2 ^ 30) (den x) (den_pos x) product_exact few (none x (unit x h))) in
      (is_true _ tests.0, is_true _ tests.1)
    where
      few : num x * 2 ^ 30 ≤ 2 ^ 30 * den x
      few = le_trans (mul-le-mul_right (2 ^ 30) (within_small x h)) (le_of_eq (mul_comm (den x) (2 ^ 30)))

      none : (y : Float) → Unit y → sign y ≡ true → num y * 2 ^ 30 ≡ 0
      none nan u n = absurd u
      none (inf s) u n = absurd u
      none (fin s m e) u n = ap (λ (k : ℕ). k * 2 ^ 30) (u.1 n) ∙ zero-mul (2 ^ 30)

  -- so parts are the product, rounded down
  pub product_parts : num product / den product ≡ parts x
  unfolding parts S
  product_parts = whole_as product (num x * 2 ^ 30) (den x) (den_pos x) (sized product (sign x) (num x * 2 ^ 30) (den x) product_exact)
