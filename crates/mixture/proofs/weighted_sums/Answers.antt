use Prim.Native.Nat.{◌+◌, ◌*◌, ◌≤◌}
use mathlib.Core.Path.{◌≡◌, ap, ◌∙◌}
use mathlib.Core.Bool.{false}
use native.Mathlib.Omega.{arith}
use lib.ListN.{length, get_or, take, drop}
use Rattle.std.proofs.lemmas.Result.{IfOk-at_ok}
use Rattle.model.specs.declared.Rounding.TheVariants.{Down, Up}
use Rattle.model.specs.Scale.{S}
use Rattle.model.specs.Plan.{plan_of, row_length}
use Rattle.model.specs.Bounds.{lower, upper}
use Rattle.model.specs.Memory.{zero_first}
use Rattle.model.specs.Refusal.{outside, workspace_needed}
use Rattle.model.proofs.Facts.{accepted_head}
use Rattle.mixture_plans.specs.Refusal.{ask_of_one, MixtureAccepted}
use Rattle.mixture_plans.proofs.CheckLaws.{MixtureFacts, mixture_facts, ask_passes}
use Rattle.mixture.proofs.SumLaws.{Given, mixing_more, none_asked, summing_none, summing_done, summing_fits, summing_more, next_accepted, next_inside, next_asked, asked_next, reused_none, reused_more}
use Rattle.mixture.proofs.weighted_sums.Goals as goal
use Rattle.mixture.proofs.weighted_sums.Goals.{After-ask, After-unwrap-bounds, After-product-lower, After-product-upper, After-row_length, Start}

-- what is known of the ask
passes : (c : Start) → MixtureAccepted c.args.mixture c.args.row.now × ((outside c.args.question ≡ false) × (workspace_needed (ask_of_one c.args.mixture c.args.question) ≤ length c.args.workspace.now))
passes c = ask_passes _ _ _ _ c.requires.passes

facts : (c : Start) → MixtureFacts c.args.mixture c.args.row.now
facts c = mixture_facts _ _ c.requires.heads_long c.requires.weights_long (passes c).0

pub loop-i-init : goal.loop-i-init
loop-i-init c =
    let f = facts (goal.at.loop-i-init c).Start in
    record { asked = none_asked _ _ f; lows = summing_none _ _ f Down _; highs = summing_none _ _ f Up _; space = reused_none _ _ }

pub offset_bounds-heads-i : goal.offset_bounds-heads-i
offset_bounds-heads-i c = omega (arith, (facts (goal.at.offset_bounds-heads-i c).Start).known.fits, c.loop-i-test.true)

pub bounds-heads-i : goal.bounds-heads-i
bounds-heads-i c = omega (arith, (facts (goal.at.bounds-heads-i c).Start).known.fits, c.loop-i-test.true)

pub row_length-requires : goal.row_length-requires
row_length-requires c =
    accepted_head _ _ (next_accepted _ _ (facts (goal.at.row_length-requires c).Start) _ _ c.loop-i.invariant.asked c.loop-i-test.true)

-- the plan's row lies in the lent one
inside : (c : After-row_length) → MixtureFacts c.args.mixture c.args.row.now → c.loop-i.start + c.row_length.result ≤ length c.args.row.now
inside c f = omega (arith, c.row_length.ensures, next_inside _ _ f _ _ c.loop-i.invariant.asked c.loop-i-test.true)

pub overflow_add-end : goal.overflow_add-end
overflow_add-end c =
    let at = goal.at.overflow_add-end c in
    omega (arith, inside at.After-row_length (facts at.Start))

pub offset_bounds-row-start : goal.offset_bounds-row-start
offset_bounds-row-start c =
    let at = goal.at.offset_bounds-row-start c in
    omega (arith, inside at.After-row_length (facts at.Start))

pub slice_bounds-ask-end : goal.slice_bounds-ask-end
slice_bounds-ask-end c = let at = goal.at.slice_bounds-ask-end c in inside at.After-row_length (facts at.Start)

pub offset_bounds-weights-i : goal.offset_bounds-weights-i
offset_bounds-weights-i c = omega (arith, (facts (goal.at.offset_bounds-weights-i c).Start).known.fits, c.loop-i-test.true)

pub bounds-weights-i : goal.bounds-weights-i
bounds-weights-i c = omega (arith, (facts (goal.at.bounds-weights-i c).Start).known.fits, c.loop-i-test.true)

-- what asking the plan gave
given :
    (c : After-ask) →
    let a = c.args in
    let h = get_or a.mixture.heads c.loop-i.i (record { months = 0; opening = 0; sizes = 0; income = 0 }) in
    let p = plan_of h (take (row_length h) (drop c.loop-i.start a.row.now)) in
    Given c.ask.result (lower p a.question) (upper p a.question)
    × (c.ask.new.workspace ≡ zero_first (workspace_needed (ask_of_one a.mixture a.question)) c.loop-i.workspace)
given c =
    let passed = ask_passes _ _ _ _ c.requires.passes in
    let f = mixture_facts _ _ c.requires.heads_long c.requires.weights_long passed.0 in
    asked_next _ _ f _ _ c.loop-i.invariant.asked c.loop-i-test.true _ passed.1.0 _ c.row_length.ensures _ _ _
    (omega (arith, passed.1.1, c.loop-i.invariant.space.long)) c.ask.ensures.answered c.ask.ensures.cleared

pub unwrap-bounds-requires : goal.unwrap-bounds-requires
unwrap-bounds-requires c = (given (goal.at.unwrap-bounds-requires c).After-ask).0.0

-- its bounds
bounds_are :
    (c : After-unwrap-bounds) →
    let a = c.args in
    let h = get_or a.mixture.heads c.loop-i.i (record { months = 0; opening = 0; sizes = 0; income = 0 }) in
    let p = plan_of h (take (row_length h) (drop c.loop-i.start a.row.now)) in
    Given c.ask.result (lower p a.question) (upper p a.question) → (c.unwrap-bounds.result.lower ≡ lower p a.question) × (c.unwrap-bounds.result.upper ≡ upper p a.question)
bounds_are c is = IfOk-at_ok _ c.unwrap-bounds.ensures is.1

-- the products are those of the definition
low_product :
    (c : After-product-lower) →
    let a = c.args in
    let h = get_or a.mixture.heads c.loop-i.i (record { months = 0; opening = 0; sizes = 0; income = 0 }) in
    let p = plan_of h (take (row_length h) (drop c.loop-i.start a.row.now)) in
    c.unwrap-bounds.result.lower ≡ lower p a.question → c.product-lower.result ≡ get_or a.mixture.weights c.loop-i.i 0 * lower p a.question
low_product c e = c.product-lower.ensures ∙ ap (λ n. get_or c.args.mixture.weights c.loop-i.i 0 * n) e

high_product :
    (c : After-product-upper) →
    let a = c.args in
    let h = get_or a.mixture.heads c.loop-i.i (record { months = 0; opening = 0; sizes = 0; income = 0 }) in
    let p = plan_of h (take (row_length h) (drop c.loop-i.start a.row.now)) in
    c.unwrap-bounds.result.upper ≡ upper p a.question → c.product-upper.result ≡ get_or a.mixture.weights c.loop-i.i 0 * upper p a.question
high_product c e = c.product-upper.ensures ∙ ap (λ n. get_or c.args.mixture.weights c.loop-i.i 0 * n) e

pub overflow_add-lower : goal.overflow_add-lower
unfolding S
overflow_add-lower c =
    omega (arith, summing_fits _ _ (facts (goal.at.overflow_add-lower c).Start) _ _ c.loop-i.invariant.asked c.loop-i-test.true Down _ _ c.loop-i.invariant.lows _ (low_product (goal.at.overflow_add-lower c).After-product-lower (bounds_are (goal.at.overflow_add-lower c).After-unwrap-bounds (given (goal.at.overflow_add-lower c).After-ask).0).0))

pub overflow_add-upper : goal.overflow_add-upper
unfolding S
overflow_add-upper c =
    omega (arith, summing_fits _ _ (facts (goal.at.overflow_add-upper c).Start) _ _ c.loop-i.invariant.asked c.loop-i-test.true Up _ _ c.loop-i.invariant.highs _ (high_product (goal.at.overflow_add-upper c).After-product-upper (bounds_are (goal.at.overflow_add-upper c).After-unwrap-bounds (given (goal.at.overflow_add-upper c).After-ask).0).1))

pub loop-i-preserved : goal.loop-i-preserved
loop-i-preserved c =
    let at = goal.at.loop-i-preserved c in
    let f = facts at.Start in
    let inv = c.loop-i.invariant in
    let here = c.loop-i-test.true in
    let asked = given at.After-ask in
    let told = bounds_are at.After-unwrap-bounds asked.0 in
    mixing_more _ _ _ _ _ _ _ _ _ _ _ _ _ c.row_length.ensures
    (record {
      asked = next_asked _ _ f _ _ inv.asked here;
      lows = summing_more _ _ f _ _ inv.asked here Down _ _ inv.lows _ (low_product at.After-product-lower told.0);
      highs = summing_more _ _ f _ _ inv.asked here Up _ _ inv.highs _ (high_product at.After-product-upper told.1);
      space = reused_more _ _ _ _ _ inv.space c.ask.auto.workspace asked.1;
    })

pub returns : goal.returns
returns c =
    let f = facts (goal.at.returns c).Start in
    let inv = c.loop-i.invariant in record { lower = summing_done _ _ f _ _ inv.asked Down _ _ inv.lows c.loop-i-test.false; upper = summing_done _ _ f _ _ inv.asked Up _ _ inv.highs c.loop-i-test.false; cleared = inv.space.cleared (omega (arith, f.known.some, c.loop-i-test.false)) }
