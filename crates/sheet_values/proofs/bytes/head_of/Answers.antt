-- `bytes::head_of` meets its contract.
use mathlib.Core.Path.{refl}
use Rattle.sheet_values.specs.Sheet.{sheet_head}
use Rattle.sheet_values.proofs.bytes.head_of.Goals as goal

pub returns : goal.returns
unfolding sheet_head
returns c = refl
