-- Laws of the sums over 1 to n and over lists, and of numbers.
use mathlib.Core.Path.{◌≡◌, refl, sym, ◌∙◌, ap, ap₂}
use mathlib.Core.List.{List, [], ◌∷◌, ◌++◌, map, map-map}
use mathlib.Core.Logic.{◌⊎◌, inl, inr, ⊎_elim}
use Prim.Native.Nat.{ℕ, zero, suc, ◌+◌, ◌*◌, ◌^◌, ◌≤◌, zero-le, suc-le-suc, ◌<◌, min}
use native.Mathlib.Nat.{mul-add, add-mul, mul-zero, zero-mul, suc-mul, pow-succ', zero-add, min-zero, zero-min, suc-min-suc}
use native.Mathlib.Omega.{arith}
use lib.ListN.{length, drop}
use lib.Dec.{ltb}
use borrow.Author.Tests.{lt-ltb}
use mathlib.Core.Bool.{Bool, true, false, ◌||◌}
use Rattle.model.specs.Sums.{sum, product, one_to, total, count, any}
use Rattle.model.specs.Plan.{nth}

-- terms that agree have equal sums
pub sum_ext : (n : ℕ) (f g : ℕ → ℕ) → ((i : ℕ) → i < n → f (suc i) ≡ g (suc i)) → sum n f ≡ sum n g
unfolding sum
sum_ext zero f g h = refl
sum_ext (suc n) f g h =
    let first : f 1 ≡ g 1 = h 0 (omega arith) in
    let rest = sum_ext n (λ x. f (suc x)) (λ x. g (suc x)) (λ i l. h (suc i) (omega arith)) in
    omega arith

-- one term more at the end
pub sum_last : (n : ℕ) (f : ℕ → ℕ) → sum (suc n) f ≡ sum n f + f (suc n)
unfolding sum
sum_last zero f = omega arith
sum_last (suc n) f = omega (arith, sum_last n (λ x. f (suc x)))

-- terms of at most k
pub sum_at_most : (n k : ℕ) (f : ℕ → ℕ) → ((i : ℕ) → f (suc i) ≤ k) → sum n f ≤ n * k
unfolding sum
sum_at_most zero k f h = omega arith
sum_at_most (suc n) k f h = omega (arith, h 0, sum_at_most n k (λ x. f (suc x)) (λ i. h (suc i)), suc-mul n k)

pub product_ext : (n : ℕ) (f g : ℕ → ℕ) → ((i : ℕ) → f (suc i) ≡ g (suc i)) → product n f ≡ product n g
unfolding product
product_ext zero f g h = refl
product_ext (suc n) f g h = ap₂ (λ (a b : ℕ). a * b) (h 0) (product_ext n (λ x. f (suc x)) (λ x. g (suc x)) (λ i. h (suc i)))

pub sum_times : (n k : ℕ) (f : ℕ → ℕ) → sum n (λ x. k * f x) ≡ k * sum n f
unfolding sum
sum_times zero k f = sym (mul-zero k)
sum_times (suc n) k f = ap (λ (y : ℕ). k * f 1 + y) (sum_times n k (λ x. f (suc x))) ∙ sym (mul-add k (f 1) (sum n (λ x. f (suc x))))

pub total_append : (xs ys : List ℕ) → total (xs ++ ys) ≡ total xs + total ys
unfolding total
total_append [] ys = omega arith
total_append (x ∷ xs) ys = omega (arith, total_append xs ys)

pub total_map_times : {A : Type 0} (k : ℕ) (f : A → ℕ) (xs : List A) → total (map (λ x. k * f x) xs) ≡ k * total (map f xs)
unfolding total
total_map_times k f [] = sym (mul-zero k)
total_map_times k f (x ∷ xs) = ap (λ (y : ℕ). k * f x + y) (total_map_times k f xs) ∙ sym (mul-add k (f x) (total (map f xs)))

pub total_map_plus : {A : Type 0} (f g : A → ℕ) (xs : List A) → total (map f xs) + total (map g xs) ≡ total (map (λ x. f x + g x) xs)
unfolding total
total_map_plus f g [] = refl
total_map_plus f g (x ∷ xs) = omega (arith, total_map_plus f g xs)

-- those of two lists that pass a test
pub count_append : (test : ℕ → Bool) (xs ys : List ℕ) → count test (xs ++ ys) ≡ count test xs + count test ys
unfolding count
count_append test [] ys = omega arith
count_append test (x ∷ xs) ys = omega (arith, count_append test xs ys)

-- what is left of a list adds up to no more than all of it
pub total_drop_le : (j : ℕ) (xs : List ℕ) → total (drop j xs) ≤ total xs
unfolding total
total_drop_le zero xs = omega arith
total_drop_le (suc j) [] = omega arith
total_drop_le (suc j) (x ∷ xs) = omega (arith, total_drop_le j xs)

-- the sum over 1 to n, as the sum of a list
pub total_one_to : (n : ℕ) (f : ℕ → ℕ) → total (map f (one_to n)) ≡ sum n f
unfolding sum one_to total
total_one_to zero f = refl
total_one_to (suc n) f = ap (λ y. f 1 + y) (ap total (map-map f suc (one_to n)) ∙ total_one_to n (λ x. f (suc x)))

-- terms that are 0 from some place on add nothing
pub sum_cut : (s m : ℕ) (f : ℕ → ℕ) → ((i : ℕ) → s ≤ i → f (suc i) ≡ 0) → sum m f ≡ sum (min s m) f
unfolding sum
sum_cut s zero f h = rw min-zero
sum_cut zero (suc m) f h =
    rw zero-min (omega (arith, h 0 (omega arith), rw zero-min at (sum_cut zero m (λ x. f (suc x)) (λ i l. h (suc i) (omega arith)))))
sum_cut (suc s) (suc m) f h =
    rw suc-min-suc (ap (λ (y : ℕ). f 1 + y) (sum_cut s m (λ x. f (suc x)) (λ i l. h (suc i) (omega arith))))

-- the weights of a list, each times k
pub sum_nth_times : (xs : List ℕ) (k : ℕ) → sum (length xs) (λ x. nth xs x * k) ≡ total xs * k
unfolding sum total nth
sum_nth_times [] k = sym (zero-mul k)
sum_nth_times (x ∷ xs) k =
    ap (λ (y : ℕ). x * k + y)
    (sum_ext (length xs) (λ i. nth (x ∷ xs) (suc i) * k) (λ i. nth xs i * k) (λ i l. refl) ∙ sum_nth_times xs k)
    ∙ sym (add-mul x (total xs) k)

-- the same of the weights after the first j, where the terms of those are 0
pub sum_nth_from :
    (xs : List ℕ) (j k : ℕ) (f : ℕ → ℕ) →
    ((i : ℕ) → i < j → f (suc i) ≡ 0) → ((i : ℕ) → j ≤ i → f (suc i) ≡ nth xs (suc i) * k) → sum (length xs) f ≡ total (drop j xs) * k
unfolding sum total nth
sum_nth_from xs zero k f first rest = sum_ext (length xs) f (λ x. nth xs x * k) (λ i l. rest i zero-le) ∙ sum_nth_times xs k
sum_nth_from [] (suc j) k f first rest = sym (zero-mul k)
sum_nth_from (x ∷ xs) (suc j) k f first rest =
    let later = sum_nth_from xs j k (λ i. f (suc i)) (λ i l. first (suc i) (omega arith)) (λ i l. rest (suc i) (omega arith)) in
    omega (arith, first 0 (omega arith))

-- terms that each lead from one number of a row to the one before it lead from the last to the first
pub sum_telescope : (n : ℕ) (a f : ℕ → ℕ) → ((i : ℕ) → i < n → f (suc i) + a (suc i) ≡ a i) → sum n f + a n ≡ a 0
unfolding sum
sum_telescope zero a f h = zero-add (a 0)
sum_telescope (suc n) a f h =
    let later = sum_telescope n (λ i. a (suc i)) (λ i. f (suc i)) (λ i l. h (suc i) (omega arith)) in
    omega (arith, h 0 (omega arith))

pub pow_two_more : (b n : ℕ) → b ^ (2 * suc n) ≡ b * (b * b ^ (2 * n))
pow_two_more b n =
    ap (λ (e : ℕ). b ^ e) twice ∙ pow-succ' b (suc (2 * n)) ∙ ap (λ (e : ℕ). b * e) (pow-succ' b (2 * n))
  where
    twice : 2 * suc n ≡ suc (suc (2 * n))
    twice = omega arith

-- the numbers of a list that are above 0: one that is not …
pub positive_none : (xs : List ℕ) → count (λ x. ltb 0 x) (0 ∷ xs) ≡ count (λ x. ltb 0 x) xs
unfolding count
positive_none xs = zero-add _

-- … and one that is
pub positive_more : (x : ℕ) (xs : List ℕ) → 0 < x → count (λ x. ltb 0 x) (x ∷ xs) ≡ 1 + count (λ x. ltb 0 x) xs
unfolding count
positive_more x xs l = rw (lt-ltb 0 x l)

-- a number is below another or not
pub below_or_not : (s n : ℕ) → (s < n) ⊎ (n ≤ s)
below_or_not s zero = inr zero-le
below_or_not zero (suc n) = inl (omega arith)
below_or_not (suc s) (suc n) = ⊎_elim (λ l. inl (suc-le-suc l)) (λ l. inr (suc-le-suc l)) (below_or_not s n)

-- a test of some element, of what a function makes of a list and of two lists
pub any_map : (test : ℕ → Bool) (f : ℕ → ℕ) (xs : List ℕ) → any test (map f xs) ≡ any (λ x. test (f x)) xs
unfolding any
any_map test f [] = refl
any_map test f (x ∷ xs) = ap (λ (b : Bool). test (f x) || b) (any_map test f xs)

pub none_append : (test : ℕ → Bool) (xs ys : List ℕ) → any test xs ≡ false → any test ys ≡ false → any test (xs ++ ys) ≡ false
unfolding any
none_append test [] ys e later = later
none_append test (x ∷ xs) ys e later = go (test x) e (none_append test xs ys)
  where
    go : (b : Bool) → b || any test xs ≡ false → (any test xs ≡ false → any test ys ≡ false → any test (xs ++ ys) ≡ false) → b || any test (xs ++ ys) ≡ false
    go true e h = e
    go false e h = h e later

-- a test of some number from 1 to n

pub none_to : (n : ℕ) (test : ℕ → Bool) → ((i : ℕ) → i < n → test (suc i) ≡ false) → any test (one_to n) ≡ false
unfolding any one_to
none_to zero test h = refl
none_to (suc n) test h =
    rw (h 0 (omega arith)) (any_map test suc (one_to n) ∙ none_to n (λ x. test (suc x)) (λ i l. h (suc i) (omega arith)))

pub some_to : (n : ℕ) (test : ℕ → Bool) (i : ℕ) → i < n → test (suc i) ≡ true → any test (one_to n) ≡ true
unfolding any one_to
some_to zero test i l e = absurd (omega arith)
some_to (suc n) test zero l e = rw e
some_to (suc n) test (suc i) l e = or_true (test 1) (any_map test suc (one_to n) ∙ some_to n (λ x. test (suc x)) i (omega arith) e)
  where
    or_true : (a : Bool) {b : Bool} → b ≡ true → a || b ≡ true
    or_true true h = refl
    or_true false h = h

pub none_at : (n : ℕ) (test : ℕ → Bool) → any test (one_to n) ≡ false → (i : ℕ) → i < n → test (suc i) ≡ false
none_at n test e i l = go (test (suc i)) (some_to n test i l)
  where
    go : (b : Bool) → (b ≡ true → any test (one_to n) ≡ true) → b ≡ false
    go true h = sym (h refl) ∙ e
    go false h = refl
