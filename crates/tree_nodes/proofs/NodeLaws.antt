-- Laws of the nodes: the sizes tried one by one, and one month of branches.
use mathlib.Core.Path.{◌≡◌, refl, sym, ◌∙◌, ap, ap₂}
use mathlib.Core.Bool.{Bool, true, false, ◌&&◌, ◌||◌}
use mathlib.Core.Logic.{⊎_elim}
use mathlib.Core.List.{List, [], ◌∷◌}
use Prim.Native.Nat.{ℕ, zero, suc, ◌+◌, ◌*◌, ◌-◌, ◌≤◌, ◌<◌, min}
use native.Mathlib.Nat.{mul-pos, zero-mul}
use native.Mathlib.Numerals.{add-one}
use native.Mathlib.Omega.{arith}
use lib.Dec.{eqb, ltb}
use lib.ListN.{length, get_or, take, drop}
use borrow.Author.Tests.{lt-ltb, le-ltb}
use Rattle.model.specs.declared.Question.{Question}
use Rattle.model.specs.Limits.{small_income}
use Rattle.model.specs.Scale.{S}
use Rattle.model.specs.Sums.{one_to, any}
use Rattle.model.specs.Plan.{nth}
use Rattle.model.specs.MonthRule.{rule_of, opening_allowed}
use Rattle.model.proofs.Month.{scale_positive}
use Rattle.model.proofs.SumLaws.{none_to, some_to, below_or_not}
use Rattle.model.proofs.Values.{first_and_rest}
use Rattle.plain_engine.specs.Steps.{left_after, sizes_followed}
use Rattle.tree_nodes.specs.Nodes.{node_allowed, branches, leads}

-- a month may pass without a claim unless its chance is S
pub passes : (P : ℕ) → ltb P S ≡ ltb 0 ((S - P) * S)
passes P =
    ⊎_elim
    (λ (l : P < S). rw (lt-ltb P S l, lt-ltb 0 ((S - P) * S) (mul-pos (omega arith) scale_positive)))
    (λ (l : S ≤ P). let none : S - P ≡ 0 = omega arith in rw (le-ltb P S l, none, zero-mul S))
    (below_or_not P S)

-- the test of a claim's size, as the definition has it and by the place of its weight
abbrev pub claim_test : Question → List ℕ → ℕ → (ℕ → ℕ → Bool) → ℕ → ℕ → ℕ → Bool
claim_test q F P next fewer s x = ltb 0 (P * nth F x) && next fewer (s + small_income - x)

abbrev pub claim_passes : List ℕ → ℕ → (ℕ → ℕ → Bool) → ℕ → ℕ → ℕ → Bool
claim_passes F P next fewer s i = ltb 0 (P * get_or F i 0) && next fewer (s - i)

test_is : (q : Question) (F : List ℕ) (P : ℕ) (next : ℕ → ℕ → Bool) (fewer s i : ℕ) → claim_test q F P next fewer s (suc i) ≡ claim_passes F P next fewer s i
unfolding nth
test_is q F P next fewer s i = let down : s + small_income - suc i ≡ s - i = omega arith in rw down refl

or_true : (a b : Bool) → b ≡ true → a || b ≡ true
or_true true b e = refl
or_true false b e = e

pub and_false : (a b : Bool) → b ≡ false → a && b ≡ false
and_false true b e = e
and_false false b e = refl

-- the branches of a month: the one without a claim, one of a claim, and none
pub quiet_branch :
    (q : Question) (F : List ℕ) (P : ℕ) (next : ℕ → ℕ → Bool) (k s : ℕ) → ltb 0 ((S - P) * S) ≡ true → next k (s + small_income) ≡ true →
    branches q F P next k s ≡ true
unfolding branches
quiet_branch q F P next k s may here = rw (may, here) refl

module _
    (q : Question) (F : List ℕ) (P : ℕ) (next : ℕ → ℕ → Bool) (k s most range fewer : ℕ) (er : range ≡ min s (length F))
    (es : most ≡ sizes_followed ((rule_of q).after_claim k) range) (ef : fewer ≡ left_after ((rule_of q).after_claim k))
  where
    pub claim_branch : (i : ℕ) → i < most → claim_passes F P next fewer s i ≡ true → branches q F P next k s ≡ true
    unfolding branches
    claim_branch i l e =
        rw (← er, ← es, ← ef)
        (or_true (ltb 0 ((S - P) * S) && next k (s + small_income)) _ (some_to most (claim_test q F P next fewer s) i l (test_is q F P next fewer s i ∙ e)))

    pub no_branch :
        (ltb 0 ((S - P) * S) && next k (s + small_income)) ≡ false → ((i : ℕ) → i < most → claim_passes F P next fewer s i ≡ false) →
        branches q F P next k s ≡ false
    unfolding branches
    no_branch quiet claims =
        rw (← er, ← es, ← ef)
        (ap₂ (λ (a b : Bool). a || b) quiet (none_to most (claim_test q F P next fewer s) (λ i l. test_is q F P next fewer s i ∙ claims i l)))

-- the branches of a month, from what was found
pub branches_are :
    (q : Question) (F : List ℕ) (P : ℕ) (next : ℕ → ℕ → Bool) (k s most range fewer : ℕ) (may here quiet found : Bool) →
    may ≡ ltb 0 ((S - P) * S) → here ≡ next k (s + small_income) → quiet ≡ may && here →
    range ≡ min s (length F) → most ≡ sizes_followed ((rule_of q).after_claim k) range → fewer ≡ left_after ((rule_of q).after_claim k) →
    found ≡ quiet || any (claim_test q F P next fewer s) (one_to most) → found ≡ branches q F P next k s
unfolding branches
branches_are q F P next k s most range fewer may here quiet found em eh eq er es ef e = rw (← em, ← eh, ← eq, ← er, ← es, ← ef) e

-- the months after the first, as they are lent
abbrev pub onward : Question → List ℕ → ℕ → List ℕ → ℕ → ℕ → ℕ → ℕ → Bool
onward q F t Ps left level = leads q F (t + 1) (take (length Ps - 1) (drop 1 Ps)) left level

-- the first month's branches, and then those of the months after it
first_month :
    (q : Question) (F : List ℕ) (t : ℕ) (Ps : List ℕ) (left level k s : ℕ) → 0 < length Ps →
    leads q F t Ps left level k s ≡ node_allowed q t s && branches q F (get_or Ps 0 0) (onward q F t Ps left level) k s
unfolding leads
first_month q F t Ps left level k s months =
    let whole : leads q F t Ps left level k s ≡ leads q F t (get_or Ps 0 0 ∷ take (length Ps - 1) (drop 1 Ps)) left level k s = ap (λ (Qs : List ℕ). leads q F t Qs left level k s) (first_and_rest Ps months) in
    whole
    ∙ sym (ap (λ (n : ℕ). node_allowed q t s && branches q F (get_or Ps 0 0) (leads q F n (take (length Ps - 1) (drop 1 Ps)) left level) k s) (add-one t))

pub leads_is :
    (q : Question) (F : List ℕ) (t : ℕ) (Ps : List ℕ) (left level k s : ℕ) (allowed found r : Bool) → 0 < length Ps → allowed ≡ node_allowed q t s →
    found ≡ branches q F (get_or Ps 0 0) (leads q F (t + 1) (take (length Ps - 1) (drop 1 Ps)) left level) k s → r ≡ allowed && found →
    r ≡ leads q F t Ps left level k s
leads_is q F t Ps left level k s allowed found r months ea ef er =
    er ∙ ap₂ (λ (a b : Bool). a && b) ea ef ∙ sym (first_month q F t Ps left level k s months)

-- a node that is not followed leads nowhere, and another where its branches lead
pub not_followed :
    (q : Question) (F : List ℕ) (t : ℕ) (Ps : List ℕ) (left level k s : ℕ) → 0 < length Ps → node_allowed q t s ≡ false → leads q F t Ps left level k s ≡ false
not_followed q F t Ps left level k s months e =
    first_month q F t Ps left level k s months
    ∙ ap (λ (b : Bool). b && branches q F (get_or Ps 0 0) (onward q F t Ps left level) k s) e

pub followed_is :
    (q : Question) (F : List ℕ) (t : ℕ) (Ps : List ℕ) (left level k s : ℕ) {r : Bool} → 0 < length Ps → node_allowed q t s ≡ true →
    branches q F (get_or Ps 0 0) (onward q F t Ps left level) k s ≡ r → r ≡ leads q F t Ps left level k s
followed_is q F t Ps left level k s months e h =
    sym
    (first_month q F t Ps left level k s months
    ∙ ap (λ (b : Bool). b && branches q F (get_or Ps 0 0) (onward q F t Ps left level) k s) e
    ∙ h)

-- a node itself
pub no_months : (q : Question) (F : List ℕ) (t left level k s : ℕ) → (eqb k left && eqb s level) ≡ leads q F t [] left level k s
unfolding leads
no_months q F t left level k s = refl

-- the levels of the opening and of later nodes
pub opening_node : (q : Question) (t s : ℕ) → t ≡ 0 → opening_allowed q s ≡ node_allowed q t s
unfolding node_allowed
opening_node q t s e = rw e

pub later_node : (q : Question) (t s : ℕ) → (t ≡ 0 → ⊥) → (rule_of q).allowed s ≡ node_allowed q t s
unfolding node_allowed
later_node q zero s ne = absurd (ne refl)
later_node q (suc t) s ne = refl
