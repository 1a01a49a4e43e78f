-- Laws of the lines of a node: what its parts are in each case.
use mathlib.Core.Path.{◌≡◌, refl, ◌∙◌, ap}
use mathlib.Core.Bool.{Bool, true, false, cond}
use mathlib.Core.List.{List, [], ◌∷◌, ◌++◌}
use mathlib.Core.Option.{Option, none, some}
use Prim.Native.Nat.{ℕ, suc, ◌+◌, ◌-◌, ◌<◌}
use native.Mathlib.Numerals.{add-one}
use native.Mathlib.Omega.{arith}
use lib.ListN.{length, get_or, take, drop}
use borrow.Author.Tests.{lt-ltb}
use Rattle.model.specs.declared.Question.{Question}
use Rattle.model.specs.Limits.{small_income}
use Rattle.model.specs.Plan.{nth}
use Rattle.model.specs.MonthRule.{rule_of, ruin_weight}
use Rattle.model.proofs.Facts.{not_zero}
use Rattle.model.proofs.Values.{no_chances, first_and_rest}
use Rattle.plain_engine.specs.Steps.{left_after, sizes_followed}
use Rattle.text.specs.Text.{ascii, entry, line}
use Rattle.tree_values.specs.Lines.{value_text, claimed_text, claim_text, claim_texts, branch_texts}

-- the parts of a claim's line: of an empty size there is none
abbrev pub claim_first : ℕ → ℕ → List ℕ
claim_first n w = entry (ascii "  claim") (n ∷ []) ++ entry (ascii " weight") (w ∷ [])

module _ (q : Question) (F : List ℕ) (t : ℕ) (later : List ℕ) (k s i w : ℕ) (is : w ≡ get_or F i 0) where
  pub claim_empty : w ≡ 0 → claim_text q F t later k s (suc i) ≡ []
  unfolding claim_text nth
  claim_empty e = rw (← is, e)

  pub claim_filled :
      (w ≡ 0 → ⊥) → claim_text q F t later k s (suc i) ≡ claim_first (i + 1) w ++ claimed_text q F (t + 1) later ((rule_of q).after_claim k) (s - i)
  unfolding claim_text nth
  claim_filled ne =
      let down : s + small_income - suc i ≡ s - i = omega arith in
      rw (← is, lt-ltb 0 w (not_zero ne), down, add-one i, add-one t)

-- what a claim leads to: whether there is one left is whether a size is followed
pub claimed_none : (q : Question) (F : List ℕ) (t : ℕ) (later : List ℕ) (o : Option ℕ) (s n : ℕ) → n ≡ sizes_followed o 1 → n ≡ 0 → claimed_text q F t later o s ≡ line (ascii " none left") (0 ∷ 0 ∷ [])
unfolding claimed_text sizes_followed
claimed_none q F t later none s n e z = refl
claimed_none q F t later (some k) s n e z = absurd (omega (arith, e, z))

pub claimed_some :
    (q : Question) (F : List ℕ) (t : ℕ) (later : List ℕ) (o : Option ℕ) (s n j : ℕ) → n ≡ sizes_followed o 1 → (n ≡ 0 → ⊥) → j ≡ left_after o →
    claimed_text q F t later o s ≡ value_text (ascii " level") q F t later j s
unfolding claimed_text sizes_followed left_after
claimed_some q F t later none s n j e ne ej = absurd (ne e)
claimed_some q F t later (some k) s n j e ne ej = rw ej

-- the lines below a node, with a month to come
pub branch_parts :
    (q : Question) (F : List ℕ) (tail t : ℕ) (Ps : List ℕ) (k s P ruins : ℕ) → 0 < length Ps → P ≡ get_or Ps 0 0 → ruins ≡ ruin_weight F tail (s + small_income) →
    branch_texts q F tail t Ps k s
    ≡ line (ascii "  chance") (P ∷ [])
    ++ value_text (ascii "  no claim level") q F (t + 1) (take (length Ps - 1) (drop 1 Ps)) k (s + small_income)
    ++ claim_texts q F t (take (length Ps - 1) (drop 1 Ps)) k s
    ++ line (ascii "  ruin weight") (ruins ∷ [])
unfolding branch_texts
branch_parts q F tail t Ps k s P ruins months eP er =
    let whole : branch_texts q F tail t Ps k s ≡ branch_texts q F tail t (get_or Ps 0 0 ∷ take (length Ps - 1) (drop 1 Ps)) k s = ap (λ (Qs : List ℕ). branch_texts q F tail t Qs k s) (first_and_rest Ps months) in
    whole ∙ rw (eP, er, add-one t)

-- there are none below the last nodes, nor below those that are not followed
pub below_last : (q : Question) (F : List ℕ) (tail t : ℕ) (Ps : List ℕ) (k s : ℕ) (allowed : Bool) → length Ps < 1 → cond allowed (branch_texts q F tail t Ps k s) [] ≡ []
unfolding branch_texts
below_last q F tail t Ps k s allowed l = rw (no_chances Ps l) (either allowed)
  where
    either : (b : Bool) → cond {A = List ℕ} b [] [] ≡ []
    either true = refl
    either false = refl

pub below_forbidden : (q : Question) (F : List ℕ) (tail t : ℕ) (Ps : List ℕ) (k s : ℕ) (allowed : Bool) → allowed ≡ false → cond allowed (branch_texts q F tail t Ps k s) [] ≡ []
below_forbidden q F tail t Ps k s allowed e = rw e

pub below_allowed : (q : Question) (F : List ℕ) (tail t : ℕ) (Ps : List ℕ) (k s : ℕ) (allowed : Bool) → allowed ≡ true → cond allowed (branch_texts q F tail t Ps k s) [] ≡ branch_texts q F tail t Ps k s
below_allowed q F tail t Ps k s allowed e = rw e
