-- The unrounded month rule is the weight of the histories that keep a condition: once for every condition that a month takes apart as its rule
-- does, and for all questions from what a question asks of the surplus in each month and of the number of claims.
use mathlib.Core.Path.{◌≡◌, refl, ap, ◌∙◌, fun_ext}
use mathlib.Core.Bool.{Bool, true, false, cond, ◌&&◌}
use mathlib.Core.List.{List, [], ◌∷◌, ◌++◌, append-nil}
use mathlib.Core.Option.{Option, none, some}
use Prim.Native.Nat.{ℕ, suc, ◌+◌, ◌*◌, ◌-◌, ◌≤◌, ◌<◌, min}
use native.Mathlib.Nat.{zero-mul, mul-zero, mul_assoc, add-mul, one-mul, zero-add}
use native.Mathlib.Omega.{arith}
use lib.Dec.{ltb}
use lib.IntN.{pos, negsuc}
use lib.ListN.{length}
use borrow.Author.Tests.{lt-leb, le-ltb}
use Rattle.model.specs.Scale.{S}
use Rattle.model.specs.Sums.{sum, all}
use Rattle.model.specs.Plan.{nth}
use Rattle.model.specs.History.{no_claim, claim, tail_claim, History, Surplus, known, lost, next_surplus, surplus_path, at_least}
use Rattle.model.specs.Exact.{path_from}
use Rattle.model.specs.MonthRule.{Row, Rule, claim_sum, exact_month, kept, claimed_row, month_back, values}
use Rattle.model.proofs.SumLaws.{sum_cut, sum_ext}
use Rattle.model.proofs.Month.{claim_sum_times}
use Rattle.model.proofs.Histories.{weigh, weigh_end, weigh_split, weigh_none}

pub and_true : (a : Bool) → a && true ≡ a
and_true true = refl
and_true false = refl

pub and_assoc : (a b c : Bool) → (a && b) && c ≡ a && (b && c)
and_assoc true b c = refl
and_assoc false b c = refl

pub and_false : (a : Bool) → a && false ≡ false
and_false true = refl
and_false false = refl

scaled : (a b c d e : ℕ) → (a * b + (e * 0 + c * d)) * S ≡ a * (b * S) + c * (d * S)
scaled a b c d e = simp (mul-zero, zero-add, add-mul, mul_assoc)

cond_scaled : (b : Bool) → cond b 1 0 * S ≡ cond b S 0
cond_scaled true = one-mul S
cond_scaled false = zero-mul S

-- a test in front of a condition takes its weight as 0 where it fails
pub weigh_tested :
    (F : List ℕ) (tail : ℕ) (Ps : List ℕ) (b : Bool) (condition : History → Bool) (v : ℕ) →
    weigh F tail Ps condition * S ≡ v → weigh F tail Ps (λ h. b && condition h) * S ≡ cond b v 0
weigh_tested F tail Ps true condition v e = e
weigh_tested F tail Ps false condition v e = rw (weigh_none F tail Ps) (zero-mul S)

-- a claim of at least the level at which it comes ruins
pub claim_ruins : (income s i : ℕ) → s + income ≤ suc i → at_least 1 (next_surplus income (known (pos s)) (claim (suc i))) ≡ false
unfolding at_least next_surplus
claim_ruins income s i l = go (ltb (s + income) (suc i)) (s + income - suc i) (omega arith)
  where
    go : (b : Bool) (z : ℕ) → z ≡ 0 → at_least 1 (known (cond b (negsuc (suc i - suc (s + income))) (pos z))) ≡ false
    go true z e = refl
    go false z e = lt-leb 1 z (omega arith)

-- a smaller claim leaves the rest
pub claim_leaves : (income s i : ℕ) → suc i < s + income → next_surplus income (known (pos s)) (claim (suc i)) ≡ known (pos (s + income - suc i))
unfolding next_surplus
claim_leaves income s i l = rw (le-ltb (s + income) (suc i) (omega arith))

-- what follows a claim, which there may be none left to place for
abbrev pub left : {A : Type 0} → A → (ℕ → A) → Option ℕ → A
left none_left some_left none = none_left
left none_left some_left (some j) = some_left j

-- a condition with k claims to place, from the level s on
abbrev pub Condition : Type 0
Condition = ℕ → ℕ → History → Bool

-- When a month of a rule leads from a condition to another: a claim that ruins keeps income neither, and what another event leaves is allowed and keeps income the
-- condition after it.
pub record Leads (income : ℕ) (q : Rule) (before after : Condition) : Type 0 where
  pub quiet : (k s : ℕ) (h : History) → before k s (no_claim ∷ h) ≡ q.allowed (s + income) && after k (s + income) h
  pub over : (k s : ℕ) (h : History) → before k s (tail_claim ∷ h) ≡ false
  pub ruin : (k s i : ℕ) → s + income ≤ suc i → (h : History) → before k s (claim (suc i) ∷ h) ≡ false
  pub claimed :
      (k s i : ℕ) → suc i < s + income → (h : History) →
      before k s (claim (suc i) ∷ h)
      ≡ left false (λ j. q.allowed (s + income - suc i) && after j (s + income - suc i) h) (q.after_claim k)

module _ (income : ℕ) (some_income : 0 < income) (q : Rule) (F : List ℕ) (tail : ℕ) where
  -- one month, over the weights of the months after it in parts of S
  module _ (before after : Condition) (leads : Leads income q before after) (P : ℕ) (Ps : List ℕ) (next : ℕ → Row)
      (later : (k s : ℕ) → weigh F tail Ps (after k s) * S ≡ next k s) where
    -- the condition after a claim that leaves r
    after_claimed : Option ℕ → ℕ → History → Bool
    after_claimed o r h = left false (λ j. q.allowed r && after j r h) o

    kept_weigh : (j r : ℕ) → weigh F tail Ps (λ h. q.allowed r && after j r h) * S ≡ kept q.allowed (next j) r
    unfolding kept
    kept_weigh j r = weigh_tested F tail Ps (q.allowed r) (after j r) (next j r) (later j r)

    claimed_weigh : (o : Option ℕ) (r : ℕ) → weigh F tail Ps (after_claimed o r) * S ≡ claimed_row (λ j. kept q.allowed (next j)) o r
    unfolding claimed_row after_claimed
    claimed_weigh none r = rw (weigh_none F tail Ps) (zero-mul S)
    claimed_weigh (some j) r = kept_weigh j r

    -- the claims of the first month, by their sizes
    claims_weigh :
        (k s : ℕ) →
        sum (length F) (λ x. nth F x * weigh F tail Ps (λ h. before k s (claim x ∷ h)))
        ≡ claim_sum F (λ r. weigh F tail Ps (after_claimed (q.after_claim k) r)) (s + income)
    unfolding claim_sum after_claimed
    claims_weigh k s =
        sum_cut (s + income - 1) (length F) (λ x. nth F x * weigh F tail Ps (λ h. before k s (claim x ∷ h))) large
        ∙ sum_ext (min (s + income - 1) (length F)) _ _ small
      where
        large : (i : ℕ) → s + income - 1 ≤ i → nth F (suc i) * weigh F tail Ps (λ h. before k s (claim (suc i) ∷ h)) ≡ 0
        large i l = rw (fun_ext (leads.ruin k s i (omega (arith, some_income))), weigh_none F tail Ps) (mul-zero (nth F (suc i)))

        small :
            (i : ℕ) → i < min (s + income - 1) (length F) →
            nth F (suc i) * weigh F tail Ps (λ h. before k s (claim (suc i) ∷ h))
            ≡ nth F (suc i) * weigh F tail Ps (after_claimed (q.after_claim k) (s + income - suc i))
        small i l = rw (fun_ext (leads.claimed k s i (omega arith)))

    month_weigh : (k s : ℕ) → weigh F tail (P ∷ Ps) (before k s) * S ≡ month_back (exact_month income F) q P next k s
    unfolding month_back exact_month
    month_weigh k s =
        rw (
          weigh_split F tail P Ps (before k s),
          fun_ext (leads.quiet k s),
          fun_ext (leads.over k s),
          weigh_none F tail Ps,
          claims_weigh k s,
          ← kept_weigh k (s + income),
          ← fun_ext (claimed_weigh (q.after_claim k)),
          ← claim_sum_times F (λ r. weigh F tail Ps (after_claimed (q.after_claim k) r)) S (s + income),
        )
        (scaled ((S - P) * S) (weigh F tail Ps (λ h. q.allowed (s + income) && after k (s + income) h)) P
        (claim_sum F (λ r. weigh F tail Ps (after_claimed (q.after_claim k) r)) (s + income)) (P * tail))

  -- Months in which each condition leads to the next, from the weights of the months that follow them.
  pub carried_weigh :
      (C : ℕ → Condition) → ((n : ℕ) → Leads income q (C (suc n)) (C n)) →
      (rest : List ℕ) (last : ℕ → Row) → ((k s : ℕ) → weigh F tail rest (C 0 k s) * S ≡ last k s) →
      (Ps : List ℕ) (k s : ℕ) → weigh F tail (Ps ++ rest) (C (length Ps) k s) * S ≡ values (exact_month income F) q last Ps k s
  unfolding values
  carried_weigh C leads rest last end [] k s = end k s
  carried_weigh C leads rest last end (P ∷ Ps) k s =
      month_weigh (C (suc (length Ps))) (C (length Ps)) (leads (length Ps)) P (Ps ++ rest) (values (exact_month income F) q last Ps)
      (carried_weigh C leads rest last end Ps) k s

-- A question as a test T of the surplus in each month, and a condition E on the claims of a history with k of them to place
unfoldable pub holds : ℕ → (Surplus → Bool) → (ℕ → History → Bool) → Condition
holds income T E k s h = all T (path_from income s h) && E k h

-- when a rule with its last row reads what T and E ask
pub record Reads (q : Rule) (last : ℕ → Row) (T : Surplus → Bool) (E : ℕ → History → Bool) : Type 0 where
  pub above : (r : ℕ) → 0 < r → T (known (pos r)) ≡ q.allowed r
  pub ruined : (u : Surplus) → at_least 1 u ≡ false → T u ≡ false
  pub at_end : (k s : ℕ) → cond (E k []) S 0 ≡ last k s
  pub at_quiet : (k : ℕ) (h : History) → E k (no_claim ∷ h) ≡ E k h
  pub at_claim : (k x : ℕ) (h : History) → E k (claim x ∷ h) ≡ left false (λ j. E j h) (q.after_claim k)

module _ (income : ℕ) (some_income : 0 < income) (q : Rule) (last : ℕ → Row) (T : Surplus → Bool) (E : ℕ → History → Bool) (reads : Reads q last T E) where
  -- each month leads from the question to itself
  same_question : Leads income q (holds income T E) (holds income T E)
  unfolding holds all surplus_path next_surplus at_least
  same_question =
      record {
        quiet =
            λ k s h.
            rw (reads.above (s + income) (omega (arith, some_income)), reads.at_quiet k h) (and_assoc (q.allowed (s + income)) (all T (path_from income (s + income) h)) (E k h));
        over = λ k s h. ap (λ (b : Bool). (b && all T (surplus_path income lost h)) && E k (tail_claim ∷ h)) (reads.ruined lost refl);
        ruin = λ k s i l h. rw (reads.ruined (next_surplus income (known (pos s)) (claim (suc i))) (claim_ruins income s i l));
        claimed =
            λ k s i l h.
            rw (claim_leaves income s i l, reads.above (s + income - suc i) (omega arith), reads.at_claim k (suc i) h) (go (s + income - suc i) h (q.after_claim k));
      }
    where
      go :
          (r : ℕ) (h : History) (o : Option ℕ) →
          (q.allowed r && all T (path_from income r h)) && left false (λ j. E j h) o ≡ left false (λ j. q.allowed r && holds income T E j r h) o
      go r h none = and_false (q.allowed r && all T (path_from income r h))
      go r h (some j) = and_assoc (q.allowed r) (all T (path_from income r h)) (E j h)

  pub unrounded : (F : List ℕ) (tail : ℕ) (Ps : List ℕ) (k s : ℕ) → weigh F tail Ps (holds income T E k s) * S ≡ values (exact_month income F) q last Ps k s
  unfolding holds all surplus_path
  unrounded F tail Ps k s =
      rw append-nil at (carried_weigh income some_income q F tail (λ n. holds income T E) (λ n. same_question) [] last end Ps k s)
    where
      end : (k s : ℕ) → weigh F tail [] (holds income T E k s) * S ≡ last k s
      end k s = rw (weigh_end F tail (holds income T E k s)) (cond_scaled (E k []) ∙ reads.at_end k s)
