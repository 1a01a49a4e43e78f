-- `divide` meets its contract, either way: a quotient of what does not pass S × S.
use mathlib.Core.Path.{sym, ap}
use native.Mathlib.Omega.{arith}
use Rattle.model.specs.Scale.{S, quotient}
use Rattle.rounding.proofs.divide.Goals as goal

pub overflow_cast-result : goal.overflow_cast-result
unfolding S
overflow_cast-result c = omega arith

pub overflow_add-result : goal.overflow_add-result
unfolding S
overflow_add-result c = omega arith

pub overflow_cast-result-in-Up : goal.overflow_cast-result-in-Up
unfolding S
overflow_cast-result-in-Up c = omega arith

pub returns-in-Down : goal.returns-in-Down
unfolding S quotient
returns-in-Down c = sym (ap (λ round. quotient round c.args.x S) c.in-Down.is)

pub returns-in-Up : goal.returns-in-Up
unfolding S quotient
returns-in-Up c = sym (ap (λ round. quotient round c.args.x S) c.in-Up.is)
