-- `rules::put_sizes` meets its contract: the weights, and the tail in the place after them.
use Prim.Native.Nat.{◌-◌, ◌≤◌}
use mathlib.Core.Path.{◌≡◌, sym, ap, ap₂, ◌∙◌}
use mathlib.Core.List.{◌++◌}
use native.Mathlib.Omega.{arith}
use lib.ListN.{length, take, drop, set}
use lib.Seq.{length-take-le}
use Rattle.model.specs.Scale.{S}
use Rattle.model.specs.Sums.{total}
use Rattle.sheet_values.specs.Rules.{weights, tail}
use Rattle.sheet_values.proofs.RuleLaws.{sizes_stored}
use Rattle.sheet_values.proofs.GuardLaws.{weights_never_pass}
use Rattle.sheet_values.proofs.rules.put_sizes.Goals as goal
use Rattle.sheet_values.proofs.rules.put_sizes.Goals.{Start, After-weights_total}

lent_length : (c : Start) → length (take (length c.args.row.now - 1) c.args.row.now) ≡ length c.args.row.now - 1
lent_length c = length-take-le _ _ (omega arith)

pub slice_bounds-put_weights-end-2 : goal.slice_bounds-put_weights-end-2
slice_bounds-put_weights-end-2 c = sym (lent_length (goal.at.slice_bounds-put_weights-end-2 c).Start)

-- what was summed: the weights of all sizes
summed : (c : After-weights_total) → c.weights_total.result ≡ total (weights c.args.alpha (length c.args.row.now - 1))
summed c = c.weights_total.ensures

-- they do not pass the scale
fits : (c : After-weights_total) → total (weights c.args.alpha (length c.args.row.now - 1)) ≤ S
fits c = weights_never_pass c.args.alpha c.requires.2 _ c.requires.1

pub overflow_cast-row : goal.overflow_cast-row
unfolding S
overflow_cast-row c = omega (arith, summed (goal.at.overflow_cast-row c).After-weights_total, fits (goal.at.overflow_cast-row c).After-weights_total)

pub overflow_sub-row : goal.overflow_sub-row
unfolding S
overflow_sub-row c = omega (arith, summed (goal.at.overflow_sub-row c).After-weights_total, fits (goal.at.overflow_sub-row c).After-weights_total)

pub returns : goal.returns
unfolding S tail
returns c =
    let row = c.args.row.now in
    let m = length row - 1 in
    let alpha = c.args.alpha in
    let stored = c.put_weights.ensures ∙ ap (weights alpha) (lent_length (goal.at.returns c).Start) in
    ap₂ (λ w v. set (w ++ drop m row) m v) stored (ap (λ t. S - t) (summed (goal.at.returns c).After-weights_total))
    ∙ sizes_stored alpha row m (omega (arith, c.requires.0))
