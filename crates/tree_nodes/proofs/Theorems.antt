-- Which nodes there can be: after t months no level is above u + t, no more claims are left than are asked, and at most t fewer.
use Prim.Native.Nat.{ℕ, zero, suc, ◌+◌, ◌*◌, ◌-◌, ◌≤◌, ◌<◌, min}
use mathlib.Core.Path.{◌≡◌, refl, ap₂}
use mathlib.Core.Bool.{Bool, false, ◌&&◌, ◌||◌}
use mathlib.Core.List.{List, [], ◌∷◌}
use mathlib.Core.Option.{Option, none, some}
use native.Mathlib.Omega.{arith}
use lib.Dec.{eqb, ltb}
use lib.ListN.{length, take, length-take}
use borrow.Author.Tests.{ne_eqb}
use Rattle.model.specs.declared.Question.{Question}
use Rattle.model.specs.declared.Question.TheVariants.{Survive, Both, High, Low}
use Rattle.model.specs.Limits.{small_income}
use Rattle.model.specs.Scale.{S}
use Rattle.model.specs.Plan.{Plan, nth}
use Rattle.model.specs.MonthRule.{rule_of, claims_of, one_fewer}
use Rattle.model.proofs.SumLaws.{none_to}
use Rattle.plain_engine.specs.Steps.{left_after, sizes_followed}
use Rattle.tree_nodes.specs.Nodes.{node_allowed, branches, leads, reached}
use Rattle.tree_nodes.proofs.NodeLaws.{and_false}

-- one claim fewer at most after a claim
pub after_claim_near : (q : Question) (k j : ℕ) → (rule_of q).after_claim k ≡ some j → (j ≤ k) × (k ≤ j + 1)
unfolding rule_of one_fewer
after_claim_near Survive k j e = let same : k ≡ j = cc in (omega arith, omega arith)
after_claim_near (Both n) zero j e = let none_is : ◌≡◌ {A = ℕ} 0 1 = cc in absurd (omega arith)
after_claim_near (Both n) (suc k) j e = let same : k ≡ j = cc in (omega arith, omega arith)
after_claim_near (High L) k j e = let same : k ≡ j = cc in (omega arith, omega arith)
after_claim_near (Low L) k j e = let same : k ≡ j = cc in (omega arith, omega arith)

-- What keeps a node from being led to, whatever the months bring: it holds of the last nodes, and each branch of a month keeps it.
module _
    (q : Question) (F : List ℕ) (left level : ℕ) (Away : ℕ → ℕ → ℕ → Type 0)
    (last : (k s : ℕ) → Away 0 k s → (eqb k left && eqb s level) ≡ false)
    (quiet : (n k s : ℕ) → Away (suc n) k s → Away n k (s + small_income))
    (claimed : (n k s j r : ℕ) → Away (suc n) k s → j ≤ k → k ≤ j + 1 → r ≤ s → Away n j r)
  where
    after :
        (o : Option ℕ) (n k s : ℕ) (passes : ℕ → ℕ → Bool) → (rule_of q).after_claim k ≡ o → Away (suc n) k s → ((j r : ℕ) → Away n j r → passes j r ≡ false) →
        (i : ℕ) → i < sizes_followed o (min s (length F)) → passes (left_after o) (s + small_income - suc i) ≡ false
    unfolding sizes_followed left_after
    after none n k s passes e away never i l = absurd (omega arith)
    after (some j) n k s passes e away never i l =
        let near = after_claim_near q k j e in
        never j (s + small_income - suc i) (claimed n k s j (s + small_income - suc i) away near.0 near.1 (omega arith))

    no_branch : (P n k s : ℕ) (passes : ℕ → ℕ → Bool) → Away (suc n) k s → ((j r : ℕ) → Away n j r → passes j r ≡ false) → branches q F P passes k s ≡ false
    unfolding branches
    no_branch P n k s passes away never =
        ap₂ (λ (a b : Bool). a || b) (and_false (ltb 0 ((S - P) * S)) (passes k (s + small_income)) (never k (s + small_income) (quiet n k s away)))
        (none_to _ _ (λ i l. and_false (ltb 0 (P * nth F (suc i))) _ (after ((rule_of q).after_claim k) n k s passes refl away never i l)))

    pub never_led : (t : ℕ) (Ps : List ℕ) (k s : ℕ) → Away (length Ps) k s → leads q F t Ps left level k s ≡ false
    unfolding leads
    never_led t [] k s away = last k s away
    never_led t (P ∷ later) k s away =
        and_false (node_allowed q t s) _ (no_branch P (length later) k s (leads q F (suc t) later left level) away (λ j r. never_led (suc t) later j r))

-- so a node outside these ranges is not reached
module _ (q : Question) (p : Plan) (t k s : ℕ) where
  months_in : length (take t p.chances) ≤ t
  months_in = omega (arith, length-take t p.chances)

  pub none_above : p.opening + t < s → reached q p t k s ≡ false
  unfolding reached
  none_above l =
      never_led q p.severity k s (λ n j r. r + n < s) (λ j r a. rw (ne_eqb r s (λ e. omega arith)) (and_false (eqb j k) false refl)) (λ n j r a. omega arith)
      (λ n j r j' r' a _ _ b. omega arith) 0 (take t p.chances) (claims_of q) p.opening (omega (arith, l, months_in))

  pub none_with_more_left : claims_of q < k → reached q p t k s ≡ false
  unfolding reached
  none_with_more_left l =
      never_led q p.severity k s (λ n j r. j < k) (λ j r a. rw (ne_eqb j k (λ e. omega arith))) (λ n j r a. a) (λ n j r j' r' a b _ _. omega arith) 0
      (take t p.chances) (claims_of q) p.opening l

  pub none_with_fewer_left : k + t < claims_of q → reached q p t k s ≡ false
  unfolding reached
  none_with_fewer_left l =
      never_led q p.severity k s (λ n j r. k + n < j) (λ j r a. rw (ne_eqb j k (λ e. omega arith))) (λ n j r a. omega arith)
      (λ n j r j' r' a _ b _. omega arith) 0 (take t p.chances) (claims_of q) p.opening (omega (arith, l, months_in))
