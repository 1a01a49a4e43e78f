-- `ruin_weight` meets its contract: the sum over the sizes from the level on, which bounds it too.
use mathlib.Core.Path.{◌≡◌, refl, ap, ◌∙◌}
use Prim.Native.Nat.{ℕ}
use native.Mathlib.Omega.{arith}
use lib.Seq.{take_all}
use Rattle.std.proofs.Common.{rules, tests, ◌-◌, length, take, drop, min, length-drop}
use Rattle.std.specs.List.{sum_by}
use Rattle.std.proofs.lemmas.List.{drop_min}
use Rattle.std.proofs.lemmas.Iterator.{YieldsList-from_slice, YieldsList-from_map}
use Rattle.std.proofs.lemmas.Iterator.Consumers.{sum_by_from_yields_List, fits_by_from_yields_list}
use Rattle.model.specs.Scale.{S}
use Rattle.ruin_rows.proofs.RuinLaws.{listed_fits, weight_is}
use Rattle.ruin_rows.proofs.ruin_weight.Goals as goal
use Rattle.ruin_rows.proofs.ruin_weight.Goals.{After-sum-listed}

pub sum-listed-requires-clause-fits : goal.sum-listed-requires-clause-fits
unfolding S
sum-listed-requires-clause-fits c =
    let F = c.args.severity.now in
    let from = c.min-from.result in
    let listed = drop from F in
    let lent : take (length F - from) listed ≡ listed = take_all (length F - from) listed (omega (arith, length-drop from F)) in
    fits_by_from_yields_list (λ (f : ℕ). f) listed c.map.result _
    (YieldsList-from_map _ (λ (f : ℕ). f) (YieldsList-from_slice listed cc) c.map.ensures.closure (λ x r q k. search (rules, tests)))
    (omega (arith, listed_fits F c.args.tail from c.requires))

-- the sum that the tail is added to
sum_is : (c : After-sum-listed) → c.sum-listed.result ≡ sum_by (λ (f : ℕ). f) (drop c.min-from.result c.args.severity.now)
sum_is c =
    let F = c.args.severity.now in
    let from = c.min-from.result in
    let listed = drop from F in
    let lent : take (length F - from) listed ≡ listed = take_all (length F - from) listed (omega (arith, length-drop from F)) in
    sum_by_from_yields_List (λ (f : ℕ). f) listed c.map.result _ c.sum-listed.ensures.ran
    (YieldsList-from_map _ (λ (f : ℕ). f) (YieldsList-from_slice listed cc) c.map.ensures.closure (λ x r q k. search (rules, tests)))

pub overflow_add-result : goal.overflow_add-result
unfolding S
overflow_add-result c =
    omega (arith, listed_fits c.args.severity.now c.args.tail c.min-from.result c.requires, sum_is (goal.at.overflow_add-result c).After-sum-listed)

pub returns : goal.returns
returns c =
    let F = c.args.severity.now in
    let before = c.args.level - 1 in
    let from : c.min-from.result ≡ min before (length F) = c.min-from.ensures ∙ ap (λ n. min n (length F)) c.saturating_sub.ensures in
    let all : drop c.min-from.result F ≡ drop before F = ap (λ n. drop n F) from ∙ drop_min before F in
    omega
    (arith, weight_is F c.args.tail c.args.level before c.sum-listed.result refl (sum_is (goal.at.returns c).After-sum-listed ∙ ap (sum_by (λ (f : ℕ). f)) all))
