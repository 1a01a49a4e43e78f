-- What the tail rule is for: a claim that no size of the plan covers ruins, whatever came before it.
use mathlib.Core.Path.{◌≡◌, refl, sym, ◌∙◌}
use mathlib.Core.Bool.{Bool, true, false, cond, true≢false}
use mathlib.Core.List.{List, [], ◌∷◌, ◌++◌}
use Prim.Native.Nat.{ℕ, zero, suc, ◌+◌, ◌-◌, ◌≤◌}
use native.Mathlib.Nat.{mul-one, mul-suc}
use native.Mathlib.Omega.{arith}
use lib.Dec.{ltb}
use lib.IntN.{ℤ, pos, negsuc, sub_ℕ, ◌+ℤ◌, ◌-ℤ◌}
use lib.ListN.{length, get_or}
use borrow.Author.Tests.{le-leb, lt-leb, leb-true}
use Rattle.model.specs.Sums.{all}
use Rattle.model.specs.Levels.{largest_level}
use Rattle.model.specs.History.{Event, no_claim, claim, tail_claim, History, Surplus, known, lost, next_surplus, surplus_path, at_least, at_most}
use Rattle.model.proofs.Unrounded.{and_false}

-- a difference that is at most B
sub_at_most : (B a b : ℕ) → a ≤ B + b → at_most B (known (sub_ℕ a b)) ≡ true
unfolding at_most
sub_at_most B a b l = go (ltb a b) (a - b) (omega arith)
  where
    go : (t : Bool) (z : ℕ) → z ≤ B → at_most B (known (cond t (negsuc (b - suc a)) (pos z))) ≡ true
    go true z h = refl
    go false z h = le-leb z B h

plus_at_most : (B c : ℕ) (z : ℤ) → at_most B (known z) ≡ true → at_most (B + c) (known (z +ℤ pos c)) ≡ true
unfolding at_most
plus_at_most B c (pos z) h = le-leb (z + c) (B + c) (omega (arith, leb-true z B h))
plus_at_most B c (negsuc z) h = sub_at_most (B + c) c (suc z) (omega arith)

minus_at_most : (B x : ℕ) (z : ℤ) → at_most B (known z) ≡ true → at_most B (known (z -ℤ pos x)) ≡ true
unfolding at_most
minus_at_most B zero (pos z) h = le-leb (z + 0) B (omega (arith, leb-true z B h))
minus_at_most B (suc i) (pos z) h = sub_at_most B z (suc i) (omega (arith, leb-true z B h))
minus_at_most B zero (negsuc z) h = sub_at_most B 0 (suc z) (omega arith)
minus_at_most B (suc i) (negsuc z) h = refl

-- the surplus grows by at most the income a month
grows : (income B : ℕ) (u : Surplus) (e : Event) → at_most B u ≡ true → at_most (B + income) (next_surplus income u e) ≡ true
unfolding next_surplus at_most
grows income B (known z) no_claim h = plus_at_most B income z h
grows income B (known z) (claim x) h = minus_at_most (B + income) x (z +ℤ pos income) (plus_at_most B income z h)
grows income B (known z) tail_claim h = refl
grows income B lost e h = refl

at_most_up : (B C : ℕ) (z : ℤ) → at_most B (known z) ≡ true → B ≤ C → at_most C (known z) ≡ true
unfolding at_most
at_most_up B C (pos z) h l = le-leb z C (omega (arith, leb-true z B h))
at_most_up B C (negsuc z) h l = refl

-- less what it is at most
minus_below : (x : ℕ) (z : ℤ) → at_most x (known z) ≡ true → at_most 0 (known (z -ℤ pos x)) ≡ true
unfolding at_most
minus_below zero (pos z) h = le-leb (z + 0) 0 (omega (arith, leb-true z 0 h))
minus_below (suc i) (pos z) h = sub_at_most 0 z (suc i) (omega (arith, leb-true z (suc i) h))
minus_below x (negsuc z) h = minus_at_most 0 x (negsuc z) refl

below_one : (u : Surplus) → at_most 0 u ≡ true → at_least 1 u ≡ false
unfolding at_most at_least
below_one (known (pos z)) h = lt-leb 1 z (omega (arith, leb-true z 0 h))
below_one (known (negsuc z)) h = refl
below_one lost h = refl

-- a claim of at least the level at which it comes ruins
large_claim_ruins : (income B x : ℕ) (u : Surplus) → at_most B u ≡ true → B + income ≤ x → at_least 1 (next_surplus income u (claim x)) ≡ false
unfolding next_surplus at_most
large_claim_ruins income B x (known z) h l =
    below_one (known (z +ℤ pos income -ℤ pos x)) (minus_below x (z +ℤ pos income) (at_most_up (B + income) x (z +ℤ pos income) (plus_at_most B income z h) l))
large_claim_ruins income B x lost h l = below_one lost refl

-- in any month of any history, and in that month itself
pub ruins_then :
    (income B x : ℕ) (u : Surplus) → at_most B u ≡ true → (before after : History) → largest_level income B (suc (length before)) ≤ x →
    at_least 1 (get_or (surplus_path income u (before ++ claim x ∷ after)) (length before) (known (pos 1))) ≡ false
unfolding surplus_path largest_level
ruins_then income B x u h [] after l = large_claim_ruins income B x u h (omega (arith, mul-one income))
ruins_then income B x u h (e ∷ before) after l =
    ruins_then income (B + income) x (next_surplus income u e) (grows income B u e h) before after (omega (arith, mul-suc income (suc (length before))))

-- a test that fails at one place fails of the list; the default passes it, so the place is inside
pub all_fails : {A : Type 0} (f : A → Bool) (d : A) → f d ≡ true → (xs : List A) (i : ℕ) → f (get_or xs i d) ≡ false → all f xs ≡ false
unfolding all
all_fails f d passes [] i e = absurd (true≢false (sym passes ∙ e))
all_fails f d passes (x ∷ xs) zero e = rw e
all_fails f d passes (x ∷ xs) (suc i) e = rw (all_fails f d passes xs i e) (and_false (f x))
