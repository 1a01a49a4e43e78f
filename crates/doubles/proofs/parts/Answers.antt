-- `doubles::parts` meets its contract: the product is exact.
use Prim.Native.Nat.{◌/◌}
use mathlib.Core.Path.{◌≡◌, sym, ap, ◌∙◌, subst}
use mathlib.Core.Bool.{true}
use lib.Dec.{T}
use lib.Ieee.{Float, binary64, mul, le, fits, of_bits}
use lib.Ieee.Positive.{num, den}
use Rattle.doubles.specs.Doubles.{nought, scale}
use Rattle.doubles.proofs.RangeLaws.{literal_scale}
use Rattle.doubles.proofs.PartLaws.{product_within, product_parts}
use Rattle.doubles.proofs.parts.Goals as goal
use Rattle.doubles.proofs.parts.Goals.{Start}

-- what owning a double tells: the format holds it
held : (c : Start) → T (fits binary64 c.args.x)
held c = subst T (sym c.well_formed.0.1) tt

pub returns : goal.returns
returns c =
    let x = c.args.x in
    let product = mul binary64 x (of_bits binary64 0x41d0_0000_0000_0000) in
    let down : c.rounded_down.result ≡ num product / den product = c.rounded_down.ensures in
    down ∙ ap (λ (y : Float). num (mul binary64 x y) / den (mul binary64 x y)) literal_scale ∙ product_parts x (held (goal.at.returns c).Start) c.requires

pub rounded_down-requires : goal.rounded_down-requires
rounded_down-requires c =
    let x = c.args.x in
    subst (λ (y : Float). (le nought (mul binary64 x y) ≡ true) × (le (mul binary64 x y) scale ≡ true)) (sym literal_scale)
    (product_within x (held (goal.at.rounded_down-requires c).Start) c.requires)
