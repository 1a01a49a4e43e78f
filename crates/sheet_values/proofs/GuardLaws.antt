-- The weights of a sheet never pass S, so its check for that is a guard that no sheet reaches. Each weight is at most 2^-52 more than what it is rounded
-- from, and without that they would add up to at most 1; over all sizes it comes to less than one part.
use Prim.Native.Nat.{ℕ, zero, suc, ◌+◌, ◌*◌, ◌-◌, ◌^◌, ◌≤◌, ◌<◌, zero-le}
use mathlib.Core.Path.{◌≡◌, sym, ap, ap₂, ◌∙◌, subst}
use mathlib.Core.Bool.{true}
use native.Mathlib.Nat.{le_trans, le_of_eq, lt_of_le_of_lt, lt_of_mul-lt-mul_right, le_of_suc-le-suc, suc-mul, mul_comm, mul_assoc, mul-add, add-mul, zero-add, one-mul, mul-le-mul_left, mul-le-mul_right, le_of_mul-le-mul_right, sub-add_cancel, div-mul-le_self}
use native.Mathlib.Numerals.{add-one}
use native.Mathlib.Omega.{arith}
use lib.Dec.{lit<}
use lib.Pow.{pow_pos}
use lib.Ieee.{Float}
use lib.Ieee.Digits.{Equals}
use lib.Ieee.Positive.{num, den, den_pos}
use Rattle.model.specs.Limits.{max_sizes}
use Rattle.model.specs.Scale.{S}
use Rattle.model.specs.Sums.{sum, total}
use Rattle.doubles.specs.Doubles.{within, parts}
use Rattle.doubles.proofs.RangeLaws.{within_small}
use Rattle.doubles.proofs.PartLaws.{parts_as}
use Rattle.doubles.proofs.RoundLaws.{rest_above, product_above}
use Rattle.sheet_values.specs.Rules.{weight, weights}
use Rattle.sheet_values.proofs.RuleLaws.{weight_first, weight_next, weight_within, weight_sum, weight_sum_next, weight_sum_whole}

-- ---- whole numbers: n / d is alpha, T the sizes passed and W the next, D the unit and E what a rounding may add

-- the next size is alpha times the one before, and a rounding
grow :
    (d n T W W' D E k : ℕ) → (T + W) * d ≤ (d - n) * D + n * T + k * (E * d) → W' * d ≤ W * n + E * d
    → (T + W + W') * d ≤ (d - n) * D + n * (T + W) + (k + 1) * (E * d)
grow d n T W W' D E k so_far next =
    let more : (k + 1) * (E * d) ≡ k * (E * d) + E * d = add-mul k 1 (E * d) ∙ ap (λ x. k * (E * d) + x) (one-mul (E * d)) in
    omega (arith, more, so_far, next, add-mul (T + W) W' d, mul-add n T W, mul_comm W n)

-- what has come so far is at most the unit and the roundings
most :
    (d n T W D E B k M : ℕ) → 0 < d → n ≤ d → k ≤ M → (T + W) * d ≤ (d - n) * D + n * T + k * (E * d) → T ≤ D + B → T + W ≤ D + (B + M * E)
most d n T W D E B k M some small few so_far before =
    let whole : (d - n) * D + n * D ≡ d * D = sym (add-mul (d - n) n D) ∙ ap (λ x. x * D) (sub-add_cancel small) in
    let right : (D + (B + M * E)) * d ≡ d * D + (d * B + M * (E * d)) =
    add-mul D (B + M * E) d
    ∙ ap₂ ◌+◌ (mul_comm D d) (add-mul B (M * E) d ∙ ap₂ ◌+◌ (mul_comm B d) (mul_assoc M E d)) in
    let past : n * T ≤ n * D + n * B = le_trans (mul-le-mul_left n before) (le_of_eq (mul-add n D B)) in
    le_of_mul-le-mul_right (omega (arith, whole, right, past, so_far, mul-le-mul_right B small, mul-le-mul_right (E * d) few)) some

-- the first size, of which nothing has passed
start : (d n W D E : ℕ) → W * d ≤ (d - n) * D + E * d → (0 + W) * d ≤ (d - n) * D + n * 0 + 1 * (E * d)
start d n W D E first = omega (arith, ap (λ x. x * d) (zero-add W), one-mul (E * d), first)

-- two sums of parts, in units
join : (a b D s T W : ℕ) → a * D ≤ s * T → b * D ≤ s * W → (a + b) * D ≤ s * (T + W)
join a b D s T W one other = omega (arith, add-mul a b D, mul-add s T W, one, other)

-- one more time what every rounding may add
again : (m x : ℕ) → m * x + x ≡ (m + 1) * x
again m x = omega (arith, add-mul m 1 x, one-mul x)

-- less than one part too much is none
finish : (t D s T X : ℕ) → t * D ≤ s * T → T ≤ D + X → s * X < D → t ≤ s
finish t D s T X parts all few =
    let more : s * T ≤ s * D + s * X = le_trans (mul-le-mul_left s all) (le_of_eq (mul-add s D X)) in
    let less : t * D < suc s * D = omega (arith, parts, more, few, suc-mul s D) in
    le_of_suc-le-suc (lt_of_mul-lt-mul_right D less)

-- ---- the weights, size by size

module _ (alpha : Float) (h : within alpha ≡ true) where
  abbrev d : ℕ
  d = den alpha

  abbrev n : ℕ
  n = num alpha

  record Bounded (m : ℕ) : Type 0 where
    passed : ℕ
    next : ℕ
    next_is : Equals (weight alpha (m + 1)) next (2 ^ 1074)
    parts_most : weight_sum alpha m * 2 ^ 1074 ≤ S * passed
    grows : (passed + next) * d ≤ (d - n) * 2 ^ 1074 + n * passed + (m + 1) * (2 ^ 1022 * d)
    passed_most : passed ≤ 2 ^ 1074 + m * (max_sizes * 2 ^ 1022)

  -- what the parts of a weight come to
  parts_least : (w : Float) (v : ℕ) → Equals w v (2 ^ 1074) → parts w * 2 ^ 1074 ≤ S * v
  parts_least w v is =
      le_trans (le_of_eq (ap (λ x. x * 2 ^ 1074) (parts_as w v (2 ^ 1074) (pow_pos 1074) is)))
      (le_trans (div-mul-le_self (v * S) (2 ^ 1074)) (le_of_eq (mul_comm v S)))

  bounded_first : Bounded 0
  unfolding sum
  bounded_first =
      let r = rest_above alpha h in
      record {
        passed = 0;
        next = r.0;
        next_is = subst (λ w. Equals w r.0 (2 ^ 1074)) (weight_first alpha) r.1;
        parts_most = zero-le;
        grows = start d n r.0 (2 ^ 1074) (2 ^ 1022) r.2;
        passed_most = zero-le;
      }

  bounded_next : (m : ℕ) → m < max_sizes → Bounded m → Bounded (m + 1)
  bounded_next m few b =
      let w = weight alpha (m + 1) in
      let r = product_above w alpha (weight_within alpha h (m + 1)) h b.next b.next_is in
      record {
        passed = b.passed + b.next;
        next = r.0;
        next_is = subst (λ x. Equals x r.0 (2 ^ 1074)) (weight_next alpha m) r.1;
        parts_most =
            le_trans (le_of_eq (ap (λ x. x * 2 ^ 1074) (sym (weight_sum_next alpha m))))
            (join (weight_sum alpha m) (parts w) (2 ^ 1074) S b.passed b.next b.parts_most (parts_least w b.next b.next_is));
        grows = grow d n b.passed b.next r.0 (2 ^ 1074) (2 ^ 1022) (m + 1) b.grows r.2;
        passed_most =
            le_trans
            (most d n b.passed b.next (2 ^ 1074) (2 ^ 1022) (m * (max_sizes * 2 ^ 1022)) (m + 1) max_sizes
            (den_pos alpha) (within_small alpha h) (omega arith) b.grows b.passed_most)
            (le_of_eq (ap (λ x. 2 ^ 1074 + x) (again m (max_sizes * 2 ^ 1022))));
      }

  bounded : (m : ℕ) → m ≤ max_sizes → Bounded m
  bounded zero few = bounded_first
  bounded (suc m) few = subst Bounded (add-one m) (bounded_next m (omega arith) (bounded m (omega arith)))

  -- the roundings of all sizes come to less than one part
  pub weights_never_pass : (m : ℕ) → m ≤ max_sizes → total (weights alpha m) ≤ S
  unfolding S
  weights_never_pass m few =
      let b = bounded m few in
      finish (total (weights alpha m)) (2 ^ 1074) S b.passed (m * (max_sizes * 2 ^ 1022))
      (subst (λ t. t * 2 ^ 1074 ≤ S * b.passed) (weight_sum_whole alpha m) b.parts_most)
      b.passed_most
      (lt_of_le_of_lt
      (mul-le-mul_left S (mul-le-mul_right (max_sizes * 2 ^ 1022) few))
      (lit< {m = S * (max_sizes * (max_sizes * 2 ^ 1022))} {n = 2 ^ 1074} tt))
