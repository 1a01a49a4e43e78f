-- `doubles::rounded_down` meets its contract: `PartLaws` says what the shifted digits of the bits are.
use mathlib.Core.Path.{sym, subst}
use native.Mathlib.Omega.{arith}
use lib.Dec.{T}
use lib.Ieee.{binary64, fits}
use Rattle.doubles.proofs.PartLaws.{no_nan, exponent_fits, less_than_one, shifted, whole_fits}
use Rattle.doubles.proofs.rounded_down.Goals as goal
use Rattle.doubles.proofs.rounded_down.Goals.{Start}

-- what owning a double tells: the format holds it
held : (c : Start) → T (fits binary64 c.args.x)
held c = subst T (sym c.well_formed.0.1) tt

pub float_to_bits-bits : goal.float_to_bits-bits
float_to_bits-bits c = no_nan c.args.x (held (goal.at.float_to_bits-bits c).Start) c.requires.0 c.requires.1

pub overflow_sub-result : goal.overflow_sub-result
overflow_sub-result c = omega (arith, exponent_fits c.args.x (held (goal.at.overflow_sub-result c).Start) c.requires.0 c.requires.1)

pub returns-then-exponent-lt-ONE : goal.returns-then-exponent-lt-ONE
returns-then-exponent-lt-ONE c = less_than_one c.args.x (held (goal.at.returns-then-exponent-lt-ONE c).Start) c.requires.0 c.requires.1 c.if-exponent-lt-ONE.true

pub returns : goal.returns
returns c = shifted c.args.x (held (goal.at.returns c).Start) c.requires.0 c.requires.1 c.if-exponent-lt-ONE.false

pub overflow_cast-result : goal.overflow_cast-result
overflow_cast-result c =
    let h = held (goal.at.overflow_cast-result c).Start in
    omega (
      arith,
      shifted c.args.x h c.requires.0 c.requires.1 c.if-exponent-lt-ONE.false,
      whole_fits c.args.x h c.requires.0 c.requires.1,
    )
