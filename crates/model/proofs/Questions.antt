-- The four questions as instances: each is a test of the surplus in every month and a condition on the claims.
use mathlib.Core.Path.{◌≡◌, refl, sym, ◌∙◌, ap, fun_ext}
use mathlib.Core.Bool.{Bool, true, false, cond, ◌&&◌}
use mathlib.Core.List.{List, [], ◌∷◌}
use mathlib.Core.Option.{some}
use Prim.Native.Nat.{ℕ, zero, suc, ◌*◌, ◌<◌}
use lib.Dec.{leb, eqb, eqb-zero-suc, eqb-suc-zero, eqb-suc-suc}
use lib.IntN.{pos}
use borrow.Author.Tests.{le-leb}
use Rattle.model.specs.declared.Question.{Question}
use Rattle.model.specs.declared.Question.TheVariants.{Survive, Both, High, Low}
use Rattle.model.specs.Scale.{S}
use Rattle.model.specs.Sums.{all, count}
use Rattle.model.specs.Plan.{Plan}
use Rattle.model.specs.History.{claim, History, Surplus, known, at_least, at_most, is_claim, claims}
use Rattle.model.specs.Exact.{path_from, survives, keeps, exact}
use Rattle.model.specs.MonthRule.{exact_month, kept, value, whole, all_placed, one_fewer, any_level, rule_of, last_of, claims_of, opening_allowed}
use Rattle.model.proofs.Histories.{weight_is, claims_quiet, claims_more}
use Rattle.model.proofs.Unrounded.{and_true, and_assoc, weigh_tested, holds, left, Reads, unrounded}

and_swap : (a b c d : Bool) → (a && b) && (c && d) ≡ (a && c) && (b && d)
and_swap true true c d = refl
and_swap true false true d = refl
and_swap true false false d = refl
and_swap false b c d = refl

all_and : {A : Type 0} (f g : A → Bool) (xs : List A) → all f xs && all g xs ≡ all (λ x. f x && g x) xs
unfolding all
all_and f g [] = refl
all_and f g (x ∷ xs) = and_swap (f x) (all f xs) (g x) (all g xs) ∙ ap (λ (b : Bool). (f x && g x) && b) (all_and f g xs)

-- what a question asks of the surplus in each month
test : Question → Surplus → Bool
test Survive u = at_least 1 u
test (Both k) u = at_least 1 u
test (High L) u = at_least 1 u && at_most L u
test (Low L) u = at_least 1 u && at_least L u

-- what it asks of the claims, with k of them to place
placed : Question → ℕ → History → Bool
placed Survive k h = true
placed (Both j) k h = eqb (claims h) k
placed (High L) k h = true
placed (Low L) k h = true

keeps_is : (income : ℕ) (q : Question) (u : ℕ) (h : History) → keeps income q u h ≡ opening_allowed q u && holds income (test q) (placed q) (claims_of q) u h
unfolding keeps survives opening_allowed holds test placed claims_of
keeps_is income Survive u h = sym (and_true (survives income u h))
keeps_is income (Both k) u h = refl
keeps_is income (High L) u h =
    and_assoc (leb u L) (survives income u h) (all (at_most L) (path_from income u h))
    ∙ ap (λ (b : Bool). leb u L && b) (all_and (at_least 1) (at_most L) (path_from income u h) ∙ sym (and_true _))
keeps_is income (Low L) u h = all_and (at_least 1) (at_least L) (path_from income u h) ∙ sym (and_true _)

-- survive, high and low: the claims are not counted, and the test of the surplus is that of the level where it is above 0
level_reads :
    (T : Surplus → Bool) (allowed : ℕ → Bool) →
    ((r : ℕ) → 0 < r → T (known (pos r)) ≡ allowed r) →
    ((u : Surplus) → at_least 1 u ≡ false → T u ≡ false) →
    Reads (record { after_claim = some; allowed = allowed }) whole T (λ k h. true)
level_reads T allowed above ruined =
    record {
      above = above;
      ruined = ruined;
      at_end = λ k s. refl;
      at_quiet = λ k h. refl;
      at_claim = λ k x h. refl;
    }

-- both: the surplus is tested for survival, and the claims are counted
count_reads : (j : ℕ) → Reads (rule_of (Both j)) all_placed (at_least 1) (placed (Both j))
unfolding rule_of placed at_least all_placed one_fewer claims count is_claim
count_reads j =
    record {
      above = λ r h. le-leb 1 r h;
      ruined = λ u e. e;
      at_end = end;
      at_quiet = λ k h. ap (λ (c : ℕ). eqb c k) (claims_quiet h);
      at_claim = λ k x h. ap (λ (c : ℕ). eqb c k) (claims_more (claim x) h refl) ∙ fewer k h;
    }
  where
    end : (k s : ℕ) → cond (eqb (claims []) k) S 0 ≡ all_placed k s
    end zero s = refl
    end (suc k) s = rw (eqb-zero-suc k)

    fewer : (k : ℕ) (h : History) → eqb (suc (claims h)) k ≡ left false (λ i. eqb (claims h) i) (one_fewer k)
    fewer zero h = eqb-suc-zero (claims h)
    fewer (suc k) h = eqb-suc-suc (claims h) k

reads : (q : Question) → Reads (rule_of q) (last_of q) (test q) (placed q)
unfolding rule_of last_of test placed at_least at_most
reads Survive = level_reads (at_least 1) any_level (λ r h. le-leb 1 r h) (λ u e. e)
reads (Both j) = count_reads j
reads (High L) = level_reads (test (High L)) (λ s. leb s L) (λ r h. rw (le-leb 1 r h)) (λ u e. rw e)
reads (Low L) = level_reads (test (Low L)) (λ s. leb L s) (λ r h. rw (le-leb 1 r h)) (λ u e. rw e)

-- The unrounded month rule is W, in parts of S: for every question and any plan, over claims included.
pub unrounded_is_exact : (p : Plan) → 0 < p.income → (q : Question) → value (exact_month p.income p.severity) p q ≡ exact p q * S
unfolding value exact kept
unrounded_is_exact p some_income q =
    rw (weight_is, fun_ext (keeps_is p.income q p.opening))
    (sym
    (weigh_tested p.severity p.tail p.chances (opening_allowed q p.opening) _ _
    (unrounded p.income some_income (rule_of q) (last_of q) (test q) (placed q) (reads q) p.severity p.tail p.chances (claims_of q) p.opening)))
