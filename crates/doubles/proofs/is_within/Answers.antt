-- `doubles::is_within` meets its contract: its tests are the definition's.
use mathlib.Core.Path.{◌≡◌, sym, ap, ◌∙◌}
use mathlib.Core.Bool.{true, false, ◌&&◌}
use lib.Ieee.{binary64, le, of_bits}
use Rattle.doubles.specs.Doubles.{one, within}
use Rattle.doubles.proofs.RangeLaws.{literal_zero, literal_one}
use Rattle.doubles.proofs.is_within.Goals as goal

pub returns-then-x : goal.returns-then-x
unfolding within
returns-then-x c =
    let x = c.args.x in
    let tested : le (of_bits binary64 0) x ≡ true = c.if-x.true in
    ap (le x) literal_one ∙ ap (λ t. t && le x one) (sym tested ∙ ap (λ z. le z x) literal_zero)

pub returns-else-x : goal.returns-else-x
unfolding within
returns-else-x c =
    let x = c.args.x in
    let tested : le (of_bits binary64 0) x ≡ false = c.if-x.false in
    tested ∙ ap (λ t. t && le x one) (sym tested ∙ ap (λ z. le z x) literal_zero)
