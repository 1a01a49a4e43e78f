-- `put_value` meets its contract.
use Rattle.tree_values.specs.Lines.{value_text}
use Rattle.tree_values.proofs.put_value.Goals as goal

pub put_place-requires : goal.put_place-requires
unfolding value_text
put_place-requires c =
    rw (c.node_allowed-allowed.ensures, c.bounds_of-bounds.ensures) c.requires.level_in_bounds

pub returns : goal.returns
unfolding value_text
returns c =
    rw (← c.node_allowed-allowed.ensures, ← c.bounds_of-bounds.ensures) c.put_place.ensures
