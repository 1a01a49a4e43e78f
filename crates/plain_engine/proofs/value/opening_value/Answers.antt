-- `opening_value` meets its contract: the value at the opening, taken as 0 where the question forbids it.
use Rattle.model.specs.MonthRule.{kept}
use Rattle.plain_engine.proofs.value.opening_value.Goals as goal

pub returns : goal.returns
unfolding kept
returns c =
    let a = c.args in
    rw (← c.opening_allowed.ensures, ← c.claims_to_place-left.ensures, ← c.value-value.ensures) c.taken.ensures
