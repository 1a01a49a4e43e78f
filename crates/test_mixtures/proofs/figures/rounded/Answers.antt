-- `figures::rounded` meets its contract.
use mathlib.Core.Path.{ap}
use Prim.Native.Nat.{ℕ, ◌+◌, ◌*◌, ◌/◌}
use Rattle.model.specs.Scale.{S}
use Rattle.test_mixtures.specs.Rounded.{ten_millionths}
use Rattle.test_mixtures.proofs.figures.rounded.Goals as goal

pub returns : goal.returns
unfolding ten_millionths S
returns c = ap (λ (n : ℕ). (n * 10000000 + S / 2) / S) c.from.ensures
