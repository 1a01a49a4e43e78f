-- Laws of the refusal table: the first check that fits in two lists one after the other, and what is known of an accepted plan.
use Prim.Native.Nat.{ℕ, zero, suc, ◌+◌, ◌<◌, ◌≤◌, zero-le}
use mathlib.Core.Path.{◌≡◌, refl, sym, ap, ◌∙◌}
use mathlib.Core.Bool.{Bool, true, false, not, ◌&&◌, ◌||◌, cond}
use mathlib.Core.List.{List, [], ◌∷◌, ◌++◌}
use native.Mathlib.Nat.{le_trans}
use native.Mathlib.Omega.{arith}
use lib.Dec.{ltb, eqb}
use lib.ListN.{length, get_or, drop, length-drop}
use lib.Seq.{length-take-le}
use borrow.Author.Tests.{ltb-true, ltb-false, eqb-true, eqb-false, ne_eqb, not-false, lt-ltb, le-ltb}
use Rattle.model.specs.declared.Head.{Head}
use Rattle.model.specs.Limits.{max_months, max_opening, max_sizes, max_income, max_span}
use Rattle.model.specs.Scale.{S}
use Rattle.model.specs.Sums.{total, any, all}
use Rattle.model.specs.Plan.{Plan, plan_of, opened, row_length, horizon, sizes}
use Rattle.model.specs.Levels.{largest_level}
use Rattle.model.proofs.LevelLaws.{level_from}
use Rattle.model.specs.Refusal.{first, head_checks, length_check, tail_survivable, number_checks, plan_checks, plan_refusal, HeadAccepted, Accepted}

-- The numbers of checks are not 0, so that 0 says that none of them fits; of a table this computes.
abbrev pub numbered : List (ℕ × Bool) → Bool
numbered checks = all (λ c. ltb 0 c.0) checks

both : (a b : Bool) → a && b ≡ true → (a ≡ true) × (b ≡ true)
both true b e = (refl, e)
both false b e = (e, cc)

not-true : (b : Bool) → not b ≡ true → b ≡ false
not-true true e = cc
not-true false e = refl

pub neither : (a b : Bool) → a || b ≡ false → (a ≡ false) × (b ≡ false)
neither true b e = (e, cc)
neither false b e = (refl, e)

-- a later check counts only where no earlier one fits
pub first_append :
    (xs ys : List (ℕ × Bool)) → numbered xs ≡ true → first (xs ++ ys) ≡ cond (eqb (first xs) 0) (first ys) (first xs)
unfolding first all
first_append [] ys e = refl
first_append (c ∷ cs) ys e =
    go c.0 c.1 (both (ltb 0 c.0) (numbered cs) e).0 (first_append cs ys (both (ltb 0 c.0) (numbered cs) e).1)
  where
    go :
        (n : ℕ) (fits : Bool)
        → ltb 0 n ≡ true
        → first (cs ++ ys) ≡ cond (eqb (first cs) 0) (first ys) (first cs)
        → cond fits n (first (cs ++ ys)) ≡ cond (eqb (cond fits n (first cs)) 0) (first ys) (cond fits n (first cs))
    go n true pos later = rw (ne_eqb n 0 (λ z. omega (arith, ltb-true 0 n pos)))
    go n false pos later = later

-- where no check of two lists fits, none of either does
pub none_fits_append :
    (xs ys : List (ℕ × Bool)) → numbered xs ≡ true → first (xs ++ ys) ≡ 0 → (first xs ≡ 0) × (first ys ≡ 0)
none_fits_append xs ys e none = go (first xs) (sym (first_append xs ys e) ∙ none)
  where
    go : (n : ℕ) → cond (eqb n 0) (first ys) n ≡ 0 → (n ≡ 0) × (first ys ≡ 0)
    go zero e' = (refl, e')
    go (suc n) e' = absurd (omega (arith, rw (ne_eqb (suc n) 0 (λ z. omega arith)) at e'))

-- no check of a list has this number; of a table this computes
abbrev pub lacks : ℕ → List (ℕ × Bool) → Bool
lacks n checks = all (λ c. not (eqb c.0 n)) checks

-- a number that no check has is not given
pub first_lacks : (n : ℕ) → 0 < n → (cs : List (ℕ × Bool)) → lacks n cs ≡ true → first cs ≡ n → ⊥
unfolding first all
first_lacks n some [] e z = omega (arith, z)
first_lacks n some (c ∷ cs) e z =
    let parts = both (not (eqb c.0 n)) (lacks n cs) e in
    go c.1 c.0 parts.0 (first_lacks n some cs parts.1) z
  where
    go : (fits : Bool) (m : ℕ) → not (eqb m n) ≡ true → (first cs ≡ n → ⊥) → cond fits m (first cs) ≡ n → ⊥
    go true m other later z = eqb-false m n (not-true (eqb m n) other) z
    go false m other later z = later z

-- one that the last check has, and no other, is given only where that check fits and no other does
pub last_given :
    (n : ℕ) → 0 < n → (cs : List (ℕ × Bool)) (fits : Bool) → numbered cs ≡ true → lacks n cs ≡ true → first (cs ++ (n, fits) ∷ []) ≡ n →
    (first cs ≡ 0) × (fits ≡ true)
unfolding first
last_given n some cs fits e other z = go (first cs) fits (first_lacks n some cs other) (sym (first_append cs ((n, fits) ∷ []) e) ∙ z)
  where
    go : (m : ℕ) (fits : Bool) → (m ≡ n → ⊥) → cond (eqb m 0) (cond fits n 0) m ≡ n → (m ≡ 0) × (fits ≡ true)
    go zero true differs z = (refl, refl)
    go zero false differs z = absurd (omega (arith, z, some))
    go (suc m) fits differs z = absurd (differs (rw (ne_eqb (suc m) 0 (λ y. omega (arith, y))) at z))

pub head_numbered : (h : Head) → numbered (head_checks h) ≡ true
unfolding all head_checks
head_numbered h = refl

pub number_numbered : (h : Head) (row : List ℕ) → numbered (number_checks h row) ≡ true
unfolding all number_checks
number_numbered h row = refl

pub plan_numbered : (h : Head) (row : List ℕ) → numbered (plan_checks h row) ≡ true
unfolding all plan_checks head_checks length_check number_checks
plan_numbered h row = refl

-- what comes after the checks of a plan counts where the plan is accepted
pub plan_first :
    (h : Head) (row : List ℕ) (rest : List (ℕ × Bool))
    → first (plan_checks h row ++ rest) ≡ cond (eqb (plan_refusal h row) 0) (first rest) (plan_refusal h row)
unfolding plan_refusal
plan_first h row rest = first_append (plan_checks h row) rest (plan_numbered h row)

pub not_zero : {n : ℕ} → (n ≡ 0 → ⊥) → 0 < n
not_zero h = omega (arith, h)

-- no check fits: not the first, and none of the others
pub none_fits : (n : ℕ) (fits : Bool) (cs : List (ℕ × Bool)) → first ((suc n, fits) ∷ cs) ≡ 0 → (fits ≡ false) × (first cs ≡ 0)
unfolding first
none_fits n true cs e = absurd (omega (arith, e))
none_fits n false cs e = (refl, e)

-- where no number of a list is above a limit, none is, at any index
pub none_above : (limit : ℕ) (xs : List ℕ) → any (ltb limit) xs ≡ false → (i : ℕ) → get_or xs i 0 ≤ limit
unfolding any
none_above limit [] e i = zero-le
none_above limit (x ∷ xs) e zero = ltb-false limit x (neither (ltb limit x) (any (ltb limit) xs) e).0
none_above limit (x ∷ xs) e (suc i) = none_above limit xs (neither (ltb limit x) (any (ltb limit) xs) e).1 i

-- a tail that is not reachable income ruins where there is one
tail_fits : (p : Plan) → tail_survivable p ≡ false → 0 < p.tail → largest_level p.income p.opening (horizon p) ≤ sizes p + 1
unfolding tail_survivable
tail_fits p e some = ltb-false _ _ (sym (ap (λ t. t && ltb (sizes p + 1) (largest_level p.income p.opening (horizon p))) (lt-ltb _ _ some)) ∙ e)

-- 16 and 17 are given "both after 4 in that order": where the months, the opening and the sizes pass
pub income_then_span :
    (h : Head) → h.months ≤ max_months → h.opening ≤ max_opening → (h.sizes ≡ 0 → ⊥) → h.sizes ≤ max_sizes →
    first (head_checks h)
    ≡ cond (eqb h.income 0 || ltb max_income h.income) 16 (cond (ltb max_span (largest_level h.income h.opening h.months)) 17 0)
unfolding first head_checks
income_then_span h months opening some sizes = rw (le-ltb _ _ months, le-ltb _ _ opening, ne_eqb _ 0 some, le-ltb _ _ sizes)

-- what is known of a head that no check turns away
pub record HeadFacts (h : Head) : Type 0 where
  pub months_fit : h.months ≤ max_months
  pub opening_fits : h.opening ≤ max_opening
  pub sizes_some : 0 < h.sizes
  pub sizes_fit : h.sizes ≤ max_sizes
  pub income_some : 0 < h.income
  pub income_fits : h.income ≤ max_income
  pub span_fits : largest_level h.income h.opening h.months ≤ max_span

pub head_facts : (h : Head) → HeadAccepted h → HeadFacts h
unfolding head_checks
head_facts h e =
    let horizon_ok = none_fits _ _ _ e in
    let opening_ok = none_fits _ _ _ horizon_ok.1 in
    let sizes_ok = none_fits _ _ _ opening_ok.1 in
    let sizes_in = neither (eqb h.sizes 0) _ sizes_ok.0 in
    let income_ok = none_fits _ _ _ sizes_ok.1 in
    let income_in = neither (eqb h.income 0) _ income_ok.0 in
    record {
      months_fit = ltb-false _ _ horizon_ok.0;
      opening_fits = ltb-false _ _ opening_ok.0;
      sizes_some = not_zero (eqb-false _ _ sizes_in.0);
      sizes_fit = ltb-false _ _ sizes_in.1;
      income_some = not_zero (eqb-false _ _ income_in.0);
      income_fits = ltb-false _ _ income_in.1;
      span_fits = ltb-false _ _ (none_fits _ _ _ income_ok.1).0;
    }

-- what is known of an accepted plan
pub record Facts (h : Head) (row : List ℕ) : Type 0 where
  pub head : HeadFacts h
  pub row_is : length row ≡ row_length h
  pub numbers_fit : (i : ℕ) → get_or row i 0 ≤ S
  pub weights_add : total (plan_of h row).severity + (plan_of h row).tail ≡ S
  pub tail_ruins :
      0 < (plan_of h row).tail → largest_level (plan_of h row).income (plan_of h row).opening (horizon (plan_of h row)) ≤ sizes (plan_of h row) + 1

pub accepted_head : (h : Head) (row : List ℕ) → Accepted h row → HeadAccepted h
unfolding plan_refusal plan_checks
accepted_head h row e = (none_fits_append (head_checks h) _ (head_numbered h) e).0

pub facts : (h : Head) (row : List ℕ) → Accepted h row → Facts h row
unfolding plan_refusal plan_checks length_check number_checks
facts h row e =
    let parts = none_fits_append (head_checks h) _ (head_numbered h) e in
    let length_ok = none_fits _ _ _ parts.1 in
    let numbers_ok = none_fits _ _ _ length_ok.1 in
    let weights_ok = none_fits _ _ _ numbers_ok.1 in
    let tail_ok = none_fits _ _ _ weights_ok.1 in
    record {
      head = head_facts h parts.0;
      row_is = eqb-true _ _ (not-false _ length_ok.0);
      numbers_fit = none_above S row numbers_ok.0;
      weights_add = eqb-true _ _ (not-false _ weights_ok.0);
      tail_ruins = tail_fits (plan_of h row) tail_ok.0;
    }

-- the months are as many as the chances, and the sizes as many as the weights
module _ (h : Head) (row : List ℕ) (row_is : length row ≡ row_length h) where
  pub horizon_is : horizon (plan_of h row) ≡ h.months
  unfolding plan_of
  horizon_is = length-take-le _ row (omega arith)

  pub sizes_is : sizes (plan_of h row) ≡ h.sizes
  unfolding plan_of
  sizes_is = length-take-le _ (drop h.months row) (simp length-drop (omega arith))

-- a test of a number that passes no larger one passes no smaller one
not_above : (a : Bool) (m small large : ℕ) → small ≤ large → a && ltb m large ≡ false → a && ltb m small ≡ false
not_above true m small large l e = le-ltb m small (omega (arith, ltb-false m large e))
not_above false m small large l e = refl

-- a plan of which no check fits
none_of :
    (h : Head) (row : List ℕ) → ltb max_months h.months ≡ false → ltb max_opening h.opening ≡ false → eqb h.sizes 0 || ltb max_sizes h.sizes ≡ false →
    eqb h.income 0 || ltb max_income h.income ≡ false → ltb max_span (largest_level h.income h.opening h.months) ≡ false →
    not (eqb (length row) (row_length h)) ≡ false → any (ltb S) row ≡ false → not (eqb (total (plan_of h row).severity + (plan_of h row).tail) S) ≡ false →
    tail_survivable (plan_of h row) ≡ false → Accepted h row
unfolding first plan_refusal plan_checks head_checks length_check number_checks
none_of h row months opening sizes_fit income span long numbers weights tail = rw (months, opening, sizes_fit, income, span, long, numbers, weights, tail)

-- Every opening below an accepted plan's is accepted too: the span and the tail rule ask less of it.
pub opened_accepted : (h : Head) (row : List ℕ) → Accepted h row → (v : ℕ) → v ≤ h.opening → Accepted (opened h v) row
unfolding plan_refusal plan_checks head_checks length_check number_checks tail_survivable plan_of
opened_accepted h row e v l =
    let p = plan_of h row in
    let parts = none_fits_append (head_checks h) (length_check h row ∷ number_checks h row) (head_numbered h) e in
    let months = none_fits _ _ _ parts.0 in
    let opening = none_fits _ _ _ months.1 in
    let sizes_ok = none_fits _ _ _ opening.1 in
    let income = none_fits _ _ _ sizes_ok.1 in
    let long = none_fits _ _ _ parts.1 in
    let numbers = none_fits _ _ _ long.1 in
    let weights = none_fits _ _ _ numbers.1 in
    none_of (opened h v) row months.0 (le-ltb max_opening v (le_trans l (ltb-false max_opening h.opening opening.0))) sizes_ok.0
    income.0 (not_above true max_span (largest_level h.income v h.months) (largest_level h.income h.opening h.months) (lower_span h.months) (none_fits _ _ _ income.1).0)
    long.0 numbers.0 weights.0
    (not_above (ltb 0 p.tail) (sizes p + 1) (largest_level h.income v (horizon p)) (largest_level h.income h.opening (horizon p)) (lower_span (horizon p))
    (none_fits _ _ _ weights.1).0)
  where
    lower_span : (n : ℕ) → largest_level h.income v n ≤ largest_level h.income h.opening n
    lower_span n = (level_from h.income v h.opening n l).0
