-- Laws of lists that are the same: the test says exactly that they are equal.
use Prim.Native.Nat.{ℕ}
use mathlib.Core.Path.{◌≡◌, refl, sym, ap₂}
use mathlib.Core.Bool.{Bool, true, false, ◌&&◌}
use mathlib.Core.List.{List, [], ◌∷◌}
use lib.Dec.{eqb}
use borrow.Author.Tests.{eq-eqb, eqb-true}
use Rattle.numbers.specs.Same.{same}

itself : (xs : List ℕ) → same xs xs ≡ true
unfolding same
itself [] = refl
itself (x ∷ xs) = rw (eq-eqb x x refl) (itself xs)

pub equal_same : (xs ys : List ℕ) → xs ≡ ys → same xs ys ≡ true
equal_same xs ys e = rw (← e) (itself xs)

pub and_true : (a b : Bool) → a && b ≡ true → (a ≡ true) × (b ≡ true)
and_true true b e = (refl, e)
and_true false b e = (e, cc)

pub same_equal : (xs ys : List ℕ) → same xs ys ≡ true → xs ≡ ys
unfolding same
same_equal [] [] e = refl
same_equal [] (y ∷ ys) e = cc
same_equal (x ∷ xs) [] e = cc
same_equal (x ∷ xs) (y ∷ ys) e =
    let parts = and_true (eqb x y) (same xs ys) e in
    ap₂ (λ (z : ℕ) (zs : List ℕ). z ∷ zs) (eqb-true x y parts.0) (same_equal xs ys parts.1)

-- two truths that each follow from the other
pub both_ways : (r s : Bool) → (r ≡ true → s ≡ true) → (s ≡ true → r ≡ true) → r ≡ s
both_ways true s h k = sym (h refl)
both_ways false true h k = k refl
both_ways false false h k = refl

pub told : (xs ys : List ℕ) (r : Bool) → ((r ≡ true → xs ≡ ys) × (xs ≡ ys → r ≡ true)) → r ≡ same xs ys
told xs ys r h = both_ways r (same xs ys) (λ e. equal_same xs ys (h.0 e)) (λ e. h.1 (same_equal xs ys e))
