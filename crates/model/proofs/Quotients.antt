-- Laws of a rounded quotient, over the rounding and the divisor.
use mathlib.Core.Path.{◌≡◌, sym, ◌∙◌, ap}
use Prim.Native.Nat.{ℕ, suc, ◌+◌, ◌*◌, ◌-◌, ◌/◌, ◌≤◌, ◌<◌}
use native.Mathlib.Nat.{le_refl, le_trans, le_of_suc-le-suc, lt_of_mul-lt-mul_right, add-le-add, add_assoc, add_comm, mul-le-mul_left, mul-add, mul_comm, mul-sub, mul-one, suc-mul, div-le_of_le-mul, div-mul-le_self, div-add-mod, mod-lt, lt-mul-div-succ, mul-div_right, mul-add-div_right, add-mul-div_left, le-div_iff_mul-le, div-div-eq-div-mul}
use native.Mathlib.Omega.{arith}
use Rattle.model.specs.declared.Rounding.{Rounding}
use Rattle.model.specs.declared.Rounding.TheVariants.{Down, Up}
use Rattle.model.specs.Scale.{quotient}

-- a number of at most B divisors has a quotient of at most B
pub quotient_le : (round : Rounding) (x d B : ℕ) → 0 < d → x ≤ d * B → quotient round x d ≤ B
unfolding quotient
quotient_le Down x d B some l = div-le_of_le-mul d l
quotient_le Up x d B some l =
    le_of_suc-le-suc
    (lt_of_mul-lt-mul_right d {m = (x + (d - 1)) / d} {n = suc B}
    (omega (arith, div-mul-le_self (x + (d - 1)) d, suc-mul B d, mul_comm B d)))

-- A direction of rounding: the relation that a quotient, multiplied by its divisor again, has to the number that was divided.
pub record Direction (rel : ℕ → ℕ → Type 0) (round : Rounding) : Type 0 where
  pub same : (a : ℕ) → rel a a
  pub then : {a b c : ℕ} → rel a b → rel b c → rel a c
  pub plus : {a b c d : ℕ} → rel a b → rel c d → rel (a + c) (b + d)
  pub times : (k : ℕ) {a b : ℕ} → rel a b → rel (k * a) (k * b)
  pub rounds : (x d : ℕ) → 0 < d → rel (quotient round x d * d) x

pub downwards : Direction (λ a b. a ≤ b) Down
unfolding quotient
downwards =
    record {
      same = le_refl;
      then = le_trans;
      plus = add-le-add;
      times = λ k l. mul-le-mul_left k l;
      rounds = λ x d some. div-mul-le_self x d;
    }

pub upwards : Direction (λ a b. b ≤ a) Up
unfolding quotient
upwards =
    record {
      same = le_refl;
      then = λ p q. le_trans q p;
      plus = add-le-add;
      times = λ k l. mul-le-mul_left k l;
      rounds =
          λ x d some.
          omega (arith, div-add-mod (x + (d - 1)) d, mod-lt (x + (d - 1)) some, mul_comm ((x + (d - 1)) / d) d);
    }

pub times_right : {rel : ℕ → ℕ → Type 0} {round : Rounding} (d : Direction rel round) (k : ℕ) {a b : ℕ} → rel a b → rel (a * k) (b * k)
times_right d k {a} {b} r = rw (mul_comm a k, mul_comm b k) (d.times k r)

-- one division adds at most one part to the gap
pub quotient_gap : (a b d h : ℕ) → 0 < d → b ≤ a + d * h → quotient Up b d ≤ quotient Down a d + (h + 1)
unfolding quotient
quotient_gap a b d h some l =
    quotient_le Up b d (a / d + (h + 1)) some
    (omega (arith, lt-mul-div-succ a some, mul-add d (a / d) 1, mul-add d (a / d) (h + 1), mul-add d h 1))

-- a whole number of divisors is not rounded
pub quotient_whole : (a b d h : ℕ) → 0 < d → b ≤ a + h → quotient Up (d * b) d ≤ quotient Down (d * a) d + h
unfolding quotient
quotient_whole a b d h some l =
    rw (mul-div_right a some) (le_trans (quotient_le Up (d * b) d b some (le_refl (d * b))) l)

-- the quotient of a larger number is no smaller
rises : (x y d : ℕ) → 0 < d → x ≤ y → x / d ≤ y / d
rises x y d some l = (le-div_iff_mul-le some).1 (le_trans (div-mul-le_self x d) l)

-- what is a whole number of divisors is divided apart from the rest
pub quotient_add : (round : Rounding) (x y d : ℕ) → 0 < d → quotient round (x * d + y) d ≡ x + quotient round y d
unfolding quotient
quotient_add Down x y d some = mul-add-div_right some x y
quotient_add Up x y d some = rw (add_assoc (x * d) y (d - 1)) (mul-add-div_right some x (y + (d - 1)))

-- a number that is at most another and k divisors has a quotient of at most the other's and k
pub quotient_moves : (round : Rounding) (x y d k : ℕ) → 0 < d → x ≤ y + d * k → quotient round x d ≤ quotient round y d + k
unfolding quotient
quotient_moves Down x y d k some l = rw (← add-mul-div_left y k some) (rises x (y + d * k) d some l)
quotient_moves Up x y d k some l = rw (← add-mul-div_left (y + (d - 1)) k some) (rises (x + (d - 1)) (y + (d - 1) + d * k) d some (omega arith))

-- a quotient by d divided by e, rounded the same way, is the quotient by d × e rounded once
pub quotient_twice : (round : Rounding) (z d e : ℕ) → 0 < d → 0 < e → quotient round (quotient round z d) e ≡ quotient round z (d * e)
unfolding quotient
quotient_twice Down z d e some some' = div-div-eq-div-mul z d e
quotient_twice Up z d e some some' =
    ap (λ (n : ℕ). n / e) (add_comm ((z + (d - 1)) / d) (e - 1) ∙ sym (mul-add-div_right some (e - 1) (z + (d - 1))) ∙ ap (λ (n : ℕ). n / d) less_one)
    ∙ div-div-eq-div-mul (z + (d * e - 1)) d e
  where
    less_one : (e - 1) * d + (z + (d - 1)) ≡ z + (d * e - 1)
    less_one = omega (arith, mul_comm (e - 1) d, mul-sub d e 1, mul-one d, mul-le-mul_left d some')
