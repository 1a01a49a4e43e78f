-- `sheet_checks::check_rule` meets its contract: its tests are those of the checks, one by one.
use mathlib.Core.Path.{◌≡◌, sym, ap, ◌∙◌}
use mathlib.Core.Bool.{not, ◌&&◌, ◌||◌, cond}
use native.Mathlib.Omega.{arith}
use lib.Ieee.{lt, ne}
use lib.Ieee.Scale.{finite}
use Rattle.model.specs.Sums.{one_to, any}
use Rattle.model.specs.Refusal.{first}
use Rattle.model.proofs.Facts.{head_facts}
use Rattle.doubles.specs.Doubles.{nought, one, within}
use Rattle.sheet_values.specs.Sheet.{step_of, sheet_head}
use Rattle.sheet_values.specs.Rules.{chance}
use Rattle.sheet_checks.specs.Refusal.{is_level, rule_checks}
use Rattle.sheet_checks.proofs.CheckLaws.{finite_test, alpha_test, step_test, chance_test, is_level_kind, rules_first}
use Rattle.sheet_checks.proofs.check_rule.Goals as goal
use Rattle.sheet_checks.proofs.check_rule.Goals.{After-all_finite, After-alpha_outside, After-level_steps, After-some_outside, Else-alpha_outside, Else-level_steps, Else-not-all_finite}

finite-is : (c : After-all_finite) → finite_test c.args.bytes.now ≡ c.all_finite.result
finite-is c =
    let first = c.double-first.ensures in
    let step = c.double-step.ensures in
    let alpha = c.double-alpha.ensures in
    sym (c.all_finite.ensures ∙ (λ i. finite (first i) && finite (step i) && finite (alpha i)))

pub returns-then-not-all_finite : goal.returns-then-not-all_finite
returns-then-not-all_finite c = sym (rules_first _ ∙ rw (finite-is (goal.at.returns-then-not-all_finite c).After-all_finite ∙ c.if-not-all_finite.true))

-- the doubles are finite, and the other tests decide: `finite` is `finite-is`
finite-passed :
    (c : Else-not-all_finite) → finite_test c.args.bytes.now ≡ c.all_finite.result →
    let b = c.args.bytes.now in
    first (rule_checks b) ≡ cond (alpha_test b) 13 (cond (step_test b) 13 (cond (chance_test b) 13 0))
finite-passed c finite = rules_first _ ∙ rw (finite ∙ c.if-not-all_finite.false)

alpha-is : (c : After-alpha_outside) → alpha_test c.args.bytes.now ≡ c.alpha_outside.result
alpha-is c =
    let alpha = c.double-alpha.ensures in
    sym (c.alpha_outside.ensures ∙ (λ i. lt (alpha i) nought || not (lt (alpha i) one)))

pub returns-then-alpha_outside : goal.returns-then-alpha_outside
returns-then-alpha_outside c =
    let at = goal.at.returns-then-alpha_outside c in
    sym (finite-passed at.Else-not-all_finite (finite-is at.After-all_finite) ∙ rw (alpha-is at.After-alpha_outside ∙ c.if-alpha_outside.true))

-- alpha has passed too: `before` is `finite-passed`, `alpha` is `alpha-is`
alpha-passed :
    (c : Else-alpha_outside) →
    let b = c.args.bytes.now in
    first (rule_checks b) ≡ cond (alpha_test b) 13 (cond (step_test b) 13 (cond (chance_test b) 13 0)) →
    alpha_test b ≡ c.alpha_outside.result →
    first (rule_checks b) ≡ cond (step_test b) 13 (cond (chance_test b) 13 0)
alpha-passed c before alpha = before ∙ rw (alpha ∙ c.if-alpha_outside.false)

step_is : (c : After-level_steps) → step_test c.args.bytes.now ≡ c.level_steps.result
step_is c =
    let sheet = c.sheet_of-sheet.ensures in
    let step = c.double-step.ensures in
    sym
    (c.level_steps.ensures
    ∙ (λ i. is_level (sheet i).rule && ne (step i) nought)
    ∙ ap (λ b. b && ne (step_of c.args.bytes.now) nought) (is_level_kind c.args.bytes.now))

pub returns-then-level_steps : goal.returns-then-level_steps
returns-then-level_steps c =
    let at = goal.at.returns-then-level_steps c in
    let finite = finite-passed at.Else-not-all_finite (finite-is at.After-all_finite) in
    sym (alpha-passed at.Else-alpha_outside finite (alpha-is at.After-alpha_outside) ∙ rw (step_is at.After-level_steps ∙ c.if-level_steps.true))

pub some_outside-requires : goal.some_outside-requires
unfolding sheet_head
some_outside-requires c =
    omega (arith, ap (λ s. s.months) c.sheet_of-sheet.ensures, (head_facts _ c.requires.head_accepted).months_fit)

-- and the step: `before` is `alpha-passed`, `step` is `step_is`
step-passed :
    (c : Else-level_steps) →
    let b = c.args.bytes.now in
    first (rule_checks b) ≡ cond (step_test b) 13 (cond (chance_test b) 13 0) →
    step_test b ≡ c.level_steps.result →
    first (rule_checks b) ≡ cond (chance_test b) 13 0
step-passed c before step = before ∙ rw (step ∙ c.if-level_steps.false)

chance_is : (c : After-some_outside) → chance_test c.args.bytes.now ≡ c.some_outside.result
chance_is c =
    let sheet = c.sheet_of-sheet.ensures in
    sym (c.some_outside.ensures ∙ (λ i. any (λ t. not (within (chance (sheet i).rule t))) (one_to (sheet i).months)))

pub returns-then-some_outside : goal.returns-then-some_outside
returns-then-some_outside c =
    let at = goal.at.returns-then-some_outside c in
    let finite = finite-passed at.Else-not-all_finite (finite-is at.After-all_finite) in
    let alpha = alpha-passed at.Else-alpha_outside finite (alpha-is at.After-alpha_outside) in
    sym (step-passed at.Else-level_steps alpha (step_is at.After-level_steps) ∙ rw (chance_is at.After-some_outside ∙ c.if-some_outside.true))

pub returns : goal.returns
returns c =
    let at = goal.at.returns c in
    let finite = finite-passed at.Else-not-all_finite (finite-is at.After-all_finite) in
    let alpha = alpha-passed at.Else-alpha_outside finite (alpha-is at.After-alpha_outside) in
    sym (step-passed at.Else-level_steps alpha (step_is at.After-level_steps) ∙ rw (chance_is at.After-some_outside ∙ c.if-some_outside.false))
