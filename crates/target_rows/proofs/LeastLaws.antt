-- Laws of the least number that passes a test.
use Prim.Native.Nat.{ℕ, zero, suc, ◌+◌, ◌≤◌, zero-le, ◌<◌}
use mathlib.Core.Path.{◌≡◌, refl, sym, ap}
use mathlib.Core.Logic.{⊎_elim}
use mathlib.Core.Bool.{Bool, true, false, cond}
use native.Mathlib.Omega.{arith}
use lib.Dec.{leb}
use borrow.Author.Tests.{le-leb, lt-leb}
use Rattle.model.specs.MonthRule.{Row}
use Rattle.model.proofs.SumLaws.{below_or_not}
use Rattle.target_rows.specs.Least.{least}
use Rattle.target_rows.specs.Rows.{Below, Reaches}

-- it is the one that passes where all smaller ones fail …
pub least_is : (n : ℕ) (test : ℕ → Bool) (v : ℕ) → v < n → test v ≡ true → ((i : ℕ) → i < v → test i ≡ false) → least n test ≡ v
unfolding least
least_is zero test v l e smaller = absurd (omega arith)
least_is (suc n) test zero l e smaller = rw e
least_is (suc n) test (suc v) l e smaller =
    rw (smaller 0 (omega arith)) (ap suc (least_is n (λ i. test (suc i)) v (omega arith) e (λ i m. smaller (suc i) (omega arith))))

-- … and n where none passes
pub least_none : (n : ℕ) (test : ℕ → Bool) → ((i : ℕ) → i < n → test i ≡ false) → least n test ≡ n
unfolding least
least_none zero test none = refl
least_none (suc n) test none = rw (none 0 (omega arith)) (ap suc (least_none n (λ i. test (suc i)) (λ i m. none (suc i) (omega arith))))

-- What is known of it: it passes where it is below n, and no smaller number does.
pub record IsLeast (n : ℕ) (test : ℕ → Bool) (v : ℕ) : Type 0 where
  pub inside : v ≤ n
  pub passes : v < n → test v ≡ true
  pub smaller : (i : ℕ) → i < v → test i ≡ false

pub is_least : (n : ℕ) (test : ℕ → Bool) → IsLeast n test (least n test)
unfolding least
is_least zero test = record { inside = zero-le; passes = λ l. absurd (omega arith); smaller = λ i l. absurd (omega arith) }
is_least (suc n) test = go (test 0) refl (is_least n (λ i. test (suc i)))
  where
    go : (b : Bool) → test 0 ≡ b → IsLeast n (λ i. test (suc i)) (least n (λ i. test (suc i))) → IsLeast (suc n) test (cond b 0 (suc (least n (λ i. test (suc i)))))
    go true e h = record { inside = zero-le; passes = λ l. e; smaller = λ i l. absurd (omega arith) }
    go false e h =
        record {
          inside = omega (arith, h.inside);
          passes = λ l. h.passes (omega arith);
          smaller = smaller;
        }
      where
        smaller : (i : ℕ) → i < suc (least n (λ i. test (suc i))) → test i ≡ false
        smaller zero l = e
        smaller (suc i) l = h.smaller i (omega arith)

-- tests that agree below n have the same least number
pub least_agree : (n : ℕ) (f g : ℕ → Bool) → ((i : ℕ) → i < n → f i ≡ g i) → least n f ≡ least n g
unfolding least
least_agree zero f g same = refl
least_agree (suc n) f g same =
    rw (same 0 (omega arith)) (ap (λ (v : ℕ). cond (g 0) 0 (suc v)) (least_agree n (λ i. f (suc i)) (λ i. g (suc i)) (λ i m. same (suc i) (omega arith))))

-- a row that lies below the target has no level that reaches it
pub least_below : (target top : ℕ) (row : Row) → Below target top row → least (top + 1) (λ s. leb target (row s)) ≡ top + 1
unfolding Below
least_below target top row below = least_none (top + 1) (λ s. leb target (row s)) (λ i l. lt-leb target (row i) (below i (omega arith)))

-- a search from level 0 up: the first level that reaches the target is the least
pub level_found :
    (target top : ℕ) (row : Row) (v : ℕ) → v ≤ top → target ≤ row v → ((i : ℕ) → i < v → row i < target) → v ≡ least (top + 1) (λ s. leb target (row s))
level_found target top row v l enough smaller =
    sym (least_is (top + 1) (λ s. leb target (row s)) v (omega arith) (le-leb target (row v) enough) (λ i m. lt-leb target (row i) (smaller i m)))

-- where some level reaches it and none below the last does, the last does
pub last_reaches : (target top : ℕ) (row : Row) → Reaches target top row → ((i : ℕ) → i < top → row i < target) → target ≤ row top
last_reaches target top row some smaller =
    ⊎_elim (λ l. absurd (omega (arith, smaller some.level l, some.enough))) (λ l. last some.level (omega (arith, some.inside)) some.enough)
    (below_or_not some.level top)
  where
    last : (s : ℕ) → s ≡ top → target ≤ row s → target ≤ row top
    last s e h = rw e at h
