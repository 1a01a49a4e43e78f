-- `mixture` meets its contract: what it divides does not pass S × S.
use mathlib.Core.Path.{◌≡◌, ◌∙◌, ap₂}
use Prim.Native.Nat.{ℕ, ◌+◌, ◌*◌, ◌-◌}
use native.Mathlib.Omega.{arith}
use Rattle.model.specs.Scale.{S}
use Rattle.model.proofs.Month.{mixture_le}
use Rattle.rounding.proofs.mixture.Goals as goal

pub divide-requires : goal.divide-requires
divide-requires c =
    let a = c.args in
    let sum : c.weighted_sum.result ≡ (S - a.chance) * a.otherwise + a.chance * a.then =
    c.weighted_sum.ensures ∙ ap₂ (λ (o t : ℕ). (S - a.chance) * o + a.chance * t) c.from.ensures c.from-2.ensures in
    omega (arith, sum, mixture_le a.chance a.otherwise a.then S c.requires.0 c.requires.1 c.requires.2)
