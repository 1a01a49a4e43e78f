-- The checks of a sheet, one after the other, and what is known of a sheet that none of them turns away.
use Prim.Native.Nat.{ℕ, zero, suc, ◌+◌, ◌*◌, ◌<◌, ◌≤◌}
use mathlib.Core.Path.{◌≡◌, refl, sym, ap, ◌∙◌}
use mathlib.Core.Bool.{Bool, true, false, not, ◌&&◌, ◌||◌, cond}
use mathlib.Core.List.{List, [], ◌∷◌}
use native.Mathlib.Omega.{arith}
use borrow.Author.Tests.{lt-ltb, le-ltb, ltb-false, eqb-true, eq-eqb, ne_eqb, not-false}
use lib.Dec.{ltb, eqb, lit<}
use lib.Ieee.{lt, ne}
use lib.Ieee.Scale.{finite}
use lib.ListN.{length}
use Rattle.model.specs.Limits.{max_months, max_opening, max_sizes, max_span}
use Rattle.model.specs.Scale.{S}
use Rattle.model.specs.Sums.{one_to, total, any, all}
use Rattle.model.specs.Plan.{plan_of}
use Rattle.model.specs.Levels.{largest_level}
use Rattle.model.specs.Refusal.{first, head_checks, tail_survivable, HeadAccepted, room_check}
use Rattle.model.proofs.Facts.{numbered, lacks, neither, first_append, first_lacks, none_fits, none_fits_append, head_numbered, head_facts, horizon_is, sizes_is}
use Rattle.doubles.specs.Doubles.{nought, one, within}
use Rattle.doubles.proofs.RangeLaws.{within_alpha}
use Rattle.sheet_values.specs.declared.ChanceRule.TheVariants.{Level, Ramp}
use Rattle.sheet_values.specs.declared.Kind.{Kind}
use Rattle.sheet_values.specs.declared.Kind.TheVariants.{Level as Kind·Level, Ramp as Kind·Ramp}
use Rattle.sheet_values.specs.declared.RuleSheet.{RuleSheet}
use Rattle.sheet_values.specs.Sheet.{sheet_length, kind_number, kind_of, first_of, step_of, alpha_of, sheet_rule, sheet_of, sheet_head}
use Rattle.sheet_values.specs.Rules.{chance, weights, tail, sheet_row}
use Rattle.sheet_values.specs.Terms.{MakesPlan}
use Rattle.sheet_values.proofs.RuleLaws.{tail_left, row_is, row_tail}
use Rattle.sheet_checks.specs.Refusal.{is_level, kind_checks, rule_checks, weight_checks, sheet_checks, sheet_refusal}

-- the number of what a first list refuses, or of what follows it
abbrev pub or_then : ℕ → ℕ → ℕ
or_then n later = cond (eqb n 0) later n

pub refused_here : (n later : ℕ) → (n ≡ 0 → ⊥) → or_then n later ≡ n
refused_here n later refused = rw (ne_eqb n 0 refused)

pub passed_on : (n later : ℕ) → n ≡ 0 → or_then n later ≡ later
passed_on n later passed = rw (eq-eqb n 0 passed)

-- ---- the weights and the tail

module _ (s : RuleSheet) where
  pub tail_is :
      tail_survivable (plan_of (sheet_head s) (sheet_row s))
      ≡ (ltb 0 (tail s.alpha s.sizes) && ltb (s.sizes + 1) (largest_level 1 s.opening s.months))
  unfolding tail_survivable plan_of sheet_head
  tail_is = rw (horizon_is (sheet_head s) (sheet_row s) (row_is s), sizes_is (sheet_head s) (sheet_row s) (row_is s), row_tail s)

  abbrev weighed : ℕ
  weighed = total (weights s.alpha s.sizes)

  weights_first :
      first (weight_checks s)
      ≡ cond (ltb S weighed) 8 (cond (ltb 0 (tail s.alpha s.sizes) && ltb (s.sizes + 1) (largest_level 1 s.opening s.months)) 9 0)
  unfolding first weight_checks
  weights_first = rw tail_is

  pub weights_pass : S < weighed → first (weight_checks s) ≡ 8
  weights_pass more = weights_first ∙ rw (lt-ltb _ _ more)

  -- 8 is given for nothing else
  pub weights_within : weighed ≤ S → first (weight_checks s) ≡ 8 → ⊥
  weights_within fit eight =
      other (ltb 0 (tail s.alpha s.sizes) && ltb (s.sizes + 1) (largest_level 1 s.opening s.months))
      (sym (weights_first ∙ rw (le-ltb _ _ fit)) ∙ eight)
    where
      other : (b : Bool) → ◌≡◌ {A = ℕ} (cond b 9 0) 8 → ⊥
      other true e = omega (arith, e)
      other false e = omega (arith, e)

  -- all is left to no size above the largest
  pub no_tail : weighed ≡ S → first (weight_checks s) ≡ 0
  no_tail whole =
      weights_first
      ∙ rw (le-ltb S weighed (omega arith), le-ltb 0 (tail s.alpha s.sizes) (omega (arith, tail_left s.alpha s.sizes)))

  -- the tail is what the weights leave
  module _ (less : weighed < S) where
    tail_first : first (weight_checks s) ≡ cond (ltb (s.sizes + 1) (largest_level 1 s.opening s.months)) 9 0
    tail_first =
        weights_first
        ∙ rw (le-ltb S weighed (omega arith), lt-ltb 0 (tail s.alpha s.sizes) (omega (arith, tail_left s.alpha s.sizes)))

    pub tail_survives : s.sizes + 1 < largest_level 1 s.opening s.months → first (weight_checks s) ≡ 9
    tail_survives above = tail_first ∙ rw (lt-ltb _ _ above)

    pub tail_ruins : largest_level 1 s.opening s.months ≤ s.sizes + 1 → first (weight_checks s) ≡ 0
    tail_ruins below = tail_first ∙ rw (le-ltb _ _ below)

-- the number comes of the first list or, where that refuses nothing, of what follows it
pub of_either : (a b n : ℕ) → (a ≡ n → ⊥) → or_then a b ≡ n → (a ≡ 0) × (b ≡ n)
of_either zero b n other e = (refl, e)
of_either (suc a) b n other e = absurd (other (sym (refused_here (suc a) b (λ z. omega (arith, z))) ∙ e))

module _ (bytes : List ℕ) where
  abbrev s : RuleSheet
  s = sheet_of bytes

  -- ---- the length and the kind

  kinds_first :
      first (kind_checks bytes)
      ≡ cond (not (eqb (length bytes) sheet_length)) 5 (cond (not (eqb (kind_of bytes) 1 || eqb (kind_of bytes) 2)) 12 0)
  unfolding first kind_checks
  kinds_first = refl

  pub not_a_sheet : (length bytes ≡ sheet_length → ⊥) → first (kind_checks bytes) ≡ 5
  not_a_sheet differs = kinds_first ∙ rw (ne_eqb _ _ differs)

  module _ (length_is : length bytes ≡ sheet_length) where
    level_kind : kind_of bytes ≡ 1 → first (kind_checks bytes) ≡ 0
    level_kind is = kinds_first ∙ rw (eq-eqb _ _ length_is, is)

    ramp_kind : kind_of bytes ≡ 2 → first (kind_checks bytes) ≡ 0
    ramp_kind is = kinds_first ∙ rw (eq-eqb _ _ length_is, is)

    pub known_kind : (kind : Kind) → kind_number kind ≡ kind_of bytes → first (kind_checks bytes) ≡ 0
    known_kind Kind·Level is = level_kind (sym is)
    known_kind Kind·Ramp is = ramp_kind (sym is)

    pub other_kind : (kind_of bytes ≡ 1 → ⊥) → (kind_of bytes ≡ 2 → ⊥) → first (kind_checks bytes) ≡ 12
    other_kind no_level no_ramp = kinds_first ∙ rw (eq-eqb _ _ length_is, ne_eqb _ _ no_level, ne_eqb _ _ no_ramp)

  -- ---- the tests of the rules

  abbrev pub finite_test : Bool
  finite_test = finite (first_of bytes) && finite (step_of bytes) && finite (alpha_of bytes)

  abbrev pub alpha_test : Bool
  alpha_test = lt (alpha_of bytes) nought || not (lt (alpha_of bytes) one)

  abbrev pub step_test : Bool
  step_test = eqb (kind_of bytes) 1 && ne (step_of bytes) nought

  abbrev pub chance_test : Bool
  chance_test = any (λ i. not (within (chance s.rule i))) (one_to s.months)

  pub rules_first : first (rule_checks bytes) ≡ cond (not finite_test) 13 (cond alpha_test 13 (cond step_test 13 (cond chance_test 13 0)))
  unfolding first rule_checks
  rules_first = refl

  -- a level's rule
  pub is_level_kind : is_level s.rule ≡ eqb (kind_of bytes) 1
  unfolding sheet_of sheet_rule
  is_level_kind = go (eqb (kind_of bytes) 1)
    where
      go : (b : Bool) → is_level (cond b (Level (first_of bytes)) (Ramp (first_of bytes) (step_of bytes))) ≡ b
      go true = refl
      go false = refl

  -- ---- all checks

  kind_numbered : numbered (kind_checks bytes) ≡ true
  unfolding all kind_checks
  kind_numbered = refl

  rule_numbered : numbered (rule_checks bytes) ≡ true
  unfolding all rule_checks
  rule_numbered = refl

  sheet_numbered : numbered (sheet_checks bytes) ≡ true
  unfolding all sheet_checks kind_checks head_checks rule_checks weight_checks
  sheet_numbered = refl

  pub sheet_first :
      first (sheet_checks bytes)
      ≡ or_then
      (first (kind_checks bytes))
      (or_then (first (head_checks (sheet_head s))) (or_then (first (rule_checks bytes)) (first (weight_checks s))))
  unfolding sheet_checks
  sheet_first =
      first_append (kind_checks bytes) _ kind_numbered
      ∙ ap (or_then (first (kind_checks bytes)))
      (first_append (head_checks (sheet_head s)) _ (head_numbered (sheet_head s))
      ∙ ap (or_then (first (head_checks (sheet_head s)))) (first_append (rule_checks bytes) _ rule_numbered))

  pub refusal_is : (needed room : ℕ) → sheet_refusal bytes needed room ≡ or_then (first (sheet_checks bytes)) (cond (ltb room needed) 11 0)
  unfolding sheet_refusal first
  refusal_is needed room = first_append (sheet_checks bytes) (room_check needed room ∷ []) sheet_numbered

  -- lent memory counts last
  pub refused_early : (needed room : ℕ) → (first (sheet_checks bytes) ≡ 0 → ⊥) → sheet_refusal bytes needed room ≡ first (sheet_checks bytes)
  refused_early needed room refused = refusal_is needed room ∙ refused_here _ _ refused

  pub refused_short : (needed room : ℕ) → first (sheet_checks bytes) ≡ 0 → room < needed → sheet_refusal bytes needed room ≡ 11
  refused_short needed room none short = refusal_is needed room ∙ passed_on _ _ none ∙ rw (lt-ltb _ _ short)

  pub accepted : (needed room : ℕ) → first (sheet_checks bytes) ≡ 0 → needed ≤ room → sheet_refusal bytes needed room ≡ 0
  accepted needed room none enough = refusal_is needed room ∙ passed_on _ _ none ∙ rw (le-ltb _ _ enough)

  -- where nothing is refused, neither the sheet nor the room was
  pub all_passed : (needed room : ℕ) → sheet_refusal bytes needed room ≡ 0 → (first (sheet_checks bytes) ≡ 0) × (needed ≤ room)
  unfolding sheet_refusal
  all_passed needed room none =
      let parts = none_fits_append (sheet_checks bytes) (room_check needed room ∷ []) sheet_numbered none in
      (parts.0, ltb-false _ _ (none_fits _ _ _ parts.1).0)

  -- ---- what is known where no check fits

  pub kind_known : first (kind_checks bytes) ≡ 0 → length bytes ≡ sheet_length
  unfolding kind_checks
  kind_known e = eqb-true _ _ (not-false _ (none_fits _ _ _ e).0)

  pub record RulesHold : Type 0 where
    pub alpha_within : within s.alpha ≡ true
    pub chances_within : chance_test ≡ false

  pub rules_hold : first (rule_checks bytes) ≡ 0 → RulesHold
  unfolding rule_checks sheet_of
  rules_hold e =
      let after_finite = (none_fits _ _ _ e).1 in
      let alpha_ok = none_fits _ _ _ after_finite in
      let step_ok = none_fits _ _ _ alpha_ok.1 in
      let chance_ok = none_fits _ _ _ step_ok.1 in
      let parts = neither (lt (alpha_of bytes) nought) _ alpha_ok.0 in
      record {
        alpha_within = within_alpha (alpha_of bytes) parts.0 (not-false _ parts.1);
        chances_within = chance_ok.0;
      }

  pub record SheetFacts : Type 0 where
    pub length_is : length bytes ≡ sheet_length
    pub head_ok : HeadAccepted (sheet_head s)
    pub makes_plan : MakesPlan s
    pub tail_ok : tail_survivable (plan_of (sheet_head s) (sheet_row s)) ≡ false

  pub sheet_facts : first (sheet_checks bytes) ≡ 0 → SheetFacts
  unfolding sheet_checks weight_checks sheet_head
  sheet_facts e =
      let kind_parts = none_fits_append (kind_checks bytes) _ kind_numbered e in
      let head_parts = none_fits_append (head_checks (sheet_head s)) _ (head_numbered (sheet_head s)) kind_parts.1 in
      let rule_parts = none_fits_append (rule_checks bytes) _ rule_numbered head_parts.1 in
      let weight_ok = none_fits _ _ _ rule_parts.1 in
      let tail_ok = none_fits _ _ _ weight_ok.1 in
      let rules = rules_hold rule_parts.0 in
      let limits = head_facts _ head_parts.0 in
      record {
        length_is = kind_known kind_parts.0;
        head_ok = head_parts.0;
        makes_plan =
            record {
              months_fit = limits.months_fit;
              sizes_fit = limits.sizes_fit;
              chances_within = rules.chances_within;
              alpha_within = rules.alpha_within;
            };
        tail_ok = tail_ok.0;
      }

  -- ---- 8 is given only where the weights of a sheet pass S whose head and rules hold

  pub record WeightsPass : Type 0 where
    pub head_ok : HeadAccepted (sheet_head s)
    pub rules : RulesHold
    pub pass : first (weight_checks s) ≡ 8

  pub eight : first (sheet_checks bytes) ≡ 8 → WeightsPass
  unfolding all kind_checks head_checks rule_checks
  eight e =
      let after_kind = of_either _ _ 8 (first_lacks 8 (lit< tt) (kind_checks bytes) refl) (sym sheet_first ∙ e) in
      let after_head = of_either _ _ 8 (first_lacks 8 (lit< tt) (head_checks (sheet_head s)) refl) after_kind.1 in
      let after_rule = of_either _ _ 8 (first_lacks 8 (lit< tt) (rule_checks bytes) refl) after_head.1 in
      record { head_ok = after_head.0; rules = rules_hold after_rule.0; pass = after_rule.1 }

  -- ---- 16 and 17 are never given: a sheet's plan has an income of 1, with which the limits of the months and of the opening are that of the span

  head_early : (n : ℕ) → 4 < n → first (head_checks (sheet_head s)) ≡ n → ⊥
  unfolding first head_checks sheet_head largest_level
  head_early n above =
      go (ltb max_months s.months) (ltb max_opening s.opening) (eqb s.sizes 0 || ltb max_sizes s.sizes) (λ few. ltb-false _ _ few) (λ small. ltb-false _ _ small)
    where
      go :
          (long large sized : Bool) → (long ≡ false → s.months ≤ max_months) → (large ≡ false → s.opening ≤ max_opening) →
          cond long 2 (cond large 3 (cond sized 4 (cond (ltb max_span (s.opening + 1 * s.months)) 17 0))) ≡ n → ⊥
      go true large sized few small e = omega (arith, e)
      go false true sized few small e = omega (arith, e)
      go false false true few small e = omega (arith, e)
      go false false false few small e = omega (arith, rw (le-ltb max_span (s.opening + 1 * s.months) (omega (arith, few refl, small refl))) at e)

  never_given :
      (n needed room : ℕ) → 4 < n → lacks n (kind_checks bytes) ≡ true → lacks n (rule_checks bytes) ≡ true → lacks n (weight_checks s) ≡ true →
      lacks n (room_check needed room ∷ []) ≡ true → sheet_refusal bytes needed room ≡ n → ⊥
  unfolding first
  never_given n needed room above kinds rules weights short e =
      first_lacks n some (room_check needed room ∷ []) short (of_either _ _ n of_sheet (sym (refusal_is needed room) ∙ e)).1
    where
      some : 0 < n
      some = omega arith

      of_sheet : first (sheet_checks bytes) ≡ n → ⊥
      of_sheet e =
          let after_kind = of_either _ _ n (first_lacks n some (kind_checks bytes) kinds) (sym sheet_first ∙ e) in
          let after_head = of_either _ _ n (head_early n above) after_kind.1 in
          let after_rule = of_either _ _ n (first_lacks n some (rule_checks bytes) rules) after_head.1 in
          first_lacks n some (weight_checks s) weights after_rule.1

  pub never_16 : (needed room : ℕ) → sheet_refusal bytes needed room ≡ 16 → ⊥
  unfolding all kind_checks rule_checks weight_checks
  never_16 needed room = never_given 16 needed room (lit< tt) refl refl refl refl

  pub never_17 : (needed room : ℕ) → sheet_refusal bytes needed room ≡ 17 → ⊥
  unfolding all kind_checks rule_checks weight_checks
  never_17 needed room = never_given 17 needed room (lit< tt) refl refl refl refl
