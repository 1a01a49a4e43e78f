-- "Minus zero counts as zero": doubles that are the same, or zeros of whatever sign, pass the same tests, have the same parts, and give such doubles again.
use Prim.Native.Nat.{ℕ, zero, suc, ◌*◌, ◌<◌}
use mathlib.Core.Path.{◌≡◌, refl, sym, ap, ◌∙◌, subst}
use mathlib.Core.Bool.{Bool, true, false, not}
use native.Mathlib.Nat.{zero-mul, mul-zero, zero-add, add-zero, sub-zero}
use native.Mathlib.Omega.{arith}
use borrow.Author.Tests.{lt-ltb, le-ltb}
use lib.IntN.{pos}
use lib.Ieee.{Float, nan, inf, fin, binary64, up, down, unlike, round, sum, neg, add, sub, mul, lt, eq, le, ne}
use lib.Ieee.Fits.{down_pos}
use lib.Ieee.Scale.{finite}
use Rattle.model.specs.Scale.{S}
use Rattle.doubles.specs.Doubles.{nought, one, within, parts}
use Rattle.doubles.proofs.RangeLaws.{rounded_zero}

-- the zero of a sign
abbrev pub signed_zero : Bool → Float
signed_zero s = fin s 0 (pos 0)

-- the same, or both a zero
pub data Alike (x y : Float) : Type 0 where
  same : x ≡ y → Alike x y
  zeros : (s t : Bool) → x ≡ signed_zero s → y ≡ signed_zero t → Alike x y

-- whatever takes every zero alike takes such doubles alike
pub alike_to : {A : Type 0} (f : Float → A) → ((s t : Bool) → f (signed_zero s) ≡ f (signed_zero t)) → {x y : Float} → Alike x y → f x ≡ f y
alike_to f zero_same (same e) = ap f e
alike_to f zero_same (zeros s t e g) = ap f e ∙ zero_same s t ∙ sym (ap f g)

-- and so does an operation
alike_through :
    (f : Float → Float) → ((s t : Bool) → Alike (f (signed_zero s)) (f (signed_zero t))) → {x y : Float} → Alike x y → Alike (f x) (f y)
alike_through f zero_alike (same e) = same (ap f e)
alike_through f zero_alike {x} {y} (zeros s t e g) =
    subst (λ a. Alike (f a) (f y)) (sym e) (subst (λ b. Alike (f (signed_zero s)) (f b)) (sym g) (zero_alike s t))

alike_sym : {x y : Float} → Alike x y → Alike y x
alike_sym (same e) = same (sym e)
alike_sym (zeros s t e g) = zeros t s g e

pub alike_trans : {x y z : Float} → Alike x y → Alike y z → Alike x z
alike_trans {x} {y} {z} (same e) b = subst (λ a. Alike a z) (sym e) b
alike_trans (zeros s t e g) (same h) = zeros s t e (sym h ∙ g)
alike_trans (zeros s t e g) (zeros u v h k) = zeros s v e k

-- ---- tests and parts

pub parts_alike : {x y : Float} → Alike x y → parts x ≡ parts y
unfolding parts S
parts_alike = alike_to parts (λ s t. refl)

pub finite_alike : {x y : Float} → Alike x y → finite x ≡ finite y
finite_alike = alike_to finite (λ s t. refl)

-- both signs give what a test gives for one
of_signs : (f : Float → Bool) → f (signed_zero true) ≡ f (signed_zero false) → (s t : Bool) → f (signed_zero s) ≡ f (signed_zero t)
of_signs f e true true = refl
of_signs f e true false = e
of_signs f e false true = sym e
of_signs f e false false = refl

pub within_alike : {x y : Float} → Alike x y → within x ≡ within y
unfolding within le lt eq
within_alike = alike_to within (of_signs within refl)

pub below_zero_alike : {x y : Float} → Alike x y → lt x nought ≡ lt y nought
unfolding lt
below_zero_alike = alike_to (λ x. lt x nought) (of_signs (λ x. lt x nought) refl)

pub below_one_alike : {x y : Float} → Alike x y → lt x one ≡ lt y one
unfolding lt
below_one_alike = alike_to (λ x. lt x one) (of_signs (λ x. lt x one) refl)

pub not_zero_alike : {x y : Float} → Alike x y → ne x nought ≡ ne y nought
unfolding ne eq
not_zero_alike = alike_to (λ x. ne x nought) (of_signs (λ x. ne x nought) refl)

-- ---- operations

-- a zero that is rounded is a zero
both_zero : (s t : Bool) (a c : ℕ) → a ≡ 0 → 0 < c → Alike (round binary64 s a c) (round binary64 t a c)
both_zero s t a c none some = zeros s t (ap (λ k. round binary64 s k c) none ∙ rounded_zero s c some) (ap (λ k. round binary64 t k c) none ∙ rounded_zero t c some)

zero_times : (y : Float) (s t : Bool) → Alike (mul binary64 (signed_zero s) y) (mul binary64 (signed_zero t) y)
unfolding mul
zero_times nan s t = same refl
zero_times (inf r) s t = same refl
zero_times (fin r n d) s t = both_zero (unlike s r) (unlike t r) (0 * (n * up d)) (1 * down d) (zero-mul (n * up d)) (omega (arith, down_pos d))

times_zero : (x : Float) (s t : Bool) → Alike (mul binary64 x (signed_zero s)) (mul binary64 x (signed_zero t))
unfolding mul
times_zero nan s t = same refl
times_zero (inf r) s t = same refl
times_zero (fin r n d) s t = both_zero (unlike r s) (unlike r t) (n * up d * 0) (down d * 1) (mul-zero (n * up d)) (omega (arith, down_pos d))

-- a sum with a zero is the other, rounded
zero_left : (s r : Bool) (b c : ℕ) → 0 < c → Alike (sum binary64 s 0 r b c) (round binary64 r b c)
unfolding sum
zero_left true true b c some = same (ap (λ k. round binary64 true k c) (zero-add b))
zero_left false false b c some = same (ap (λ k. round binary64 false k c) (zero-add b))
zero_left true false zero c some = same refl
zero_left false true zero c some = both_zero false true 0 c refl some
zero_left true false (suc b) c some = rw (lt-ltb 0 (suc b) (omega arith)) (same (ap (λ k. round binary64 false k c) (sub-zero (suc b))))
zero_left false true (suc b) c some = rw (lt-ltb 0 (suc b) (omega arith)) (same (ap (λ k. round binary64 true k c) (sub-zero (suc b))))

zero_right : (r s : Bool) (b c : ℕ) → 0 < c → Alike (sum binary64 r b s 0 c) (round binary64 r b c)
unfolding sum
zero_right true true b c some = same (ap (λ k. round binary64 true k c) (add-zero b))
zero_right false false b c some = same (ap (λ k. round binary64 false k c) (add-zero b))
zero_right true false zero c some = both_zero false true 0 c refl some
zero_right false true zero c some = same refl
zero_right true false (suc b) c some =
    rw (le-ltb (suc b) 0 (omega arith), lt-ltb 0 (suc b) (omega arith)) (same (ap (λ k. round binary64 true k c) (sub-zero (suc b))))
zero_right false true (suc b) c some = rw (le-ltb (suc b) 0 (omega arith)) (same (ap (λ k. round binary64 false k c) (sub-zero (suc b))))

zero_plus : (y : Float) (s t : Bool) → Alike (add binary64 (signed_zero s) y) (add binary64 (signed_zero t) y)
unfolding add
zero_plus nan s t = same refl
zero_plus (inf r) s t = same refl
zero_plus (fin r n d) s t =
    let some : 0 < 1 * down d = omega (arith, down_pos d) in
    rw (zero-mul (down d))
    (alike_trans (zero_left s r (n * up d * 1) (1 * down d) some) (alike_sym (zero_left t r (n * up d * 1) (1 * down d) some)))

plus_zero : (x : Float) (s t : Bool) → Alike (add binary64 x (signed_zero s)) (add binary64 x (signed_zero t))
unfolding add
plus_zero nan s t = same refl
plus_zero (inf r) s t = same refl
plus_zero (fin r n d) s t =
    let some : 0 < down d * 1 = omega (arith, down_pos d) in
    rw (zero-mul (down d))
    (alike_trans (zero_right r s (n * up d * 1) (down d * 1) some) (alike_sym (zero_right r t (n * up d * 1) (down d * 1) some)))

-- what the operations give
pub add_alike : {x x' y y' : Float} → Alike x x' → Alike y y' → Alike (add binary64 x y) (add binary64 x' y')
add_alike {x} {x'} {y} {y'} a b =
    alike_trans (alike_through (λ z. add binary64 z y) (zero_plus y) a) (alike_through (add binary64 x') (plus_zero x') b)

pub mul_alike : {x x' y y' : Float} → Alike x x' → Alike y y' → Alike (mul binary64 x y) (mul binary64 x' y')
mul_alike {x} {x'} {y} {y'} a b =
    alike_trans (alike_through (λ z. mul binary64 z y) (zero_times y) a) (alike_through (mul binary64 x') (times_zero x') b)

pub sub_alike : (x : Float) {y y' : Float} → Alike y y' → Alike (sub binary64 x y) (sub binary64 x y')
unfolding sub neg
sub_alike x = alike_through (sub binary64 x) (λ s t. plus_zero x (not s) (not t))
