-- `weights_add` meets its contract: the sum of the weights that are looked at.
use mathlib.Core.Path.{ap}
use lib.Dec.{eqb}
use Rattle.model.specs.Scale.{S}
use Rattle.mixture_plans.proofs.weights_add.Goals as goal

pub returns : goal.returns
unfolding S
returns c = ap (λ n. eqb n S) c.sum_of.ensures
