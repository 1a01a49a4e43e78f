-- `weighted_sum` meets its contract: a mixture by parts of S does not pass S × S.
use mathlib.Core.Path.{ap}
use Prim.Native.Nat.{ℕ, ◌+◌, ◌*◌, ◌-◌, ◌≤◌}
use native.Mathlib.Omega.{arith}
use Rattle.model.specs.Scale.{S}
use Rattle.model.proofs.Month.{mixture_le}
use Rattle.rounding.proofs.weighted_sum.Goals as goal
use Rattle.rounding.proofs.weighted_sum.Goals.{After-from-p}

fits : (c : After-from-p) → (S - c.from-p.result) * c.args.otherwise + c.from-p.result * c.args.then ≤ S * S
fits c = mixture_le c.from-p.result c.args.otherwise c.args.then S (omega arith) c.requires.1 c.requires.2

pub overflow_sub-result : goal.overflow_sub-result
unfolding S
overflow_sub-result c = omega arith

pub overflow_mul-result : goal.overflow_mul-result
unfolding S
overflow_mul-result c = omega (arith, fits (goal.at.overflow_mul-result c).After-from-p)

pub overflow_mul-result-2 : goal.overflow_mul-result-2
unfolding S
overflow_mul-result-2 c = omega (arith, fits (goal.at.overflow_mul-result-2 c).After-from-p)

pub overflow_add-result : goal.overflow_add-result
unfolding S
overflow_add-result c = omega (arith, fits (goal.at.overflow_add-result c).After-from-p)

pub returns : goal.returns
unfolding S
returns c = ap (λ (p : ℕ). (S - p) * c.args.otherwise + p * c.args.then) c.from-p.ensures
