-- Lent memory after a call that may refuse, where nothing is refused and where something is.
use Prim.Native.Nat.{ℕ, zero, suc, ◌≤◌, max}
use mathlib.Core.Path.{◌≡◌, ◌∙◌, ap, sym}
use mathlib.Core.Bool.{cond}
use mathlib.Core.List.{List, [], ◌∷◌, ◌++◌}
use native.Mathlib.Nat.{max-zero, zero-max, suc-max-suc}
use native.Mathlib.Omega.{arith}
use borrow.Author.Tests.{eq-eqb, ne_eqb}
use lib.Dec.{eqb}
use lib.ListN.{length, take, drop, replicate}
use lib.Seq.{length-take-le, drop-nil}
use Rattle.model.specs.Memory.{filled_after, zero_first, cleared_after}

-- a choice by a refusal's number
module _ {A : Type 0} where
  pub when_none : (n : ℕ) (x y : A) → n ≡ 0 → cond (eqb n 0) x y ≡ x
  when_none n x y none = rw (eq-eqb n 0 none)

  pub when_refused : (n : ℕ) (x y : A) → (n ≡ 0 → ⊥) → cond (eqb n 0) x y ≡ y
  when_refused n x y refused = rw (ne_eqb n 0 refused)

  -- both answers have that number
  pub same_number : (number : A → ℕ) (n : ℕ) (x y : A) → number x ≡ 0 → number y ≡ n → number (cond (eqb n 0) x y) ≡ n
  same_number number zero x y of_x of_y = of_x
  same_number number (suc n) x y of_x of_y = rw (ne_eqb (suc n) 0 (λ z. omega (arith, z))) of_y

module _ (n needed : ℕ) (new lent : List ℕ) where
  pub filled : n ≡ 0 → filled_after n needed new lent ≡ new ++ drop needed lent
  unfolding filled_after
  filled none = when_none _ _ _ none

  pub kept : (n ≡ 0 → ⊥) → filled_after n needed new lent ≡ lent
  unfolding filled_after
  kept refused = when_refused _ _ _ refused

-- a workspace that a refusal left, and one that was cleared as far as it is needed, the rest being lent past the call
pub untouched : (n number needed : ℕ) (ws : List ℕ) → n ≡ number → (n ≡ 0 → ⊥) → ws ≡ cleared_after number needed ws
untouched n number needed ws e ne = rw (← e) (sym (kept n needed _ ws ne))

pub cleared_is :
    (number m needed : ℕ) (ws front : List ℕ) → number ≡ 0 → m ≡ needed → m ≤ length ws → front ≡ replicate (length (take m ws)) 0 →
    front ++ drop m ws ≡ cleared_after number needed ws
unfolding filled_after
cleared_is number m needed ws front none en fits zeros =
    rw (none, ← en) (ap (λ (first : List ℕ). first ++ drop m ws) (zeros ∙ ap (λ (n : ℕ). replicate n 0) (length-take-le m ws fits)))

-- 0 up to two places is 0 up to the larger
pub zero_more : (m n : ℕ) (ws : List ℕ) → zero_first m (zero_first n ws) ≡ zero_first (max m n) ws
zero_more zero n ws = rw zero-max
zero_more (suc m) zero ws = rw max-zero
zero_more (suc m) (suc n) [] = rw suc-max-suc (ap (λ (l : List ℕ). 0 ∷ l) (simp drop-nil at (zero_more m n [])))
zero_more (suc m) (suc n) (x ∷ ws) = rw suc-max-suc (ap (λ (l : List ℕ). 0 ∷ l) (zero_more m n ws))
