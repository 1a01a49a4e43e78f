-- `level_value` meets its contract.
use mathlib.Core.Path.{ap, ◌∙◌}
use mathlib.Core.Bool.{Bool, cond}
use Rattle.plain_engine.proofs.steps.level_value.Goals as goal

pub returns : goal.returns
returns c = c.taken.ensures ∙ ap (λ (b : Bool). cond b c.args.value 0) c.level_allowed.ensures
