-- `bytes::double` meets its contract: eight bytes, and the double of their bits.
use mathlib.Core.Path.{ap, ◌∙◌}
use lib.Ieee.{binary64, of_bits}
use Rattle.sheet_values.specs.Sheet.{number_at, double}
use Rattle.sheet_values.proofs.bytes.double.Goals as goal

pub returns : goal.returns
unfolding double number_at
returns c = c.of_bits.ensures ∙ ap (of_bits binary64) c.big_endian.ensures.number
