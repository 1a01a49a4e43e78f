-- Laws of one value: the claim sum from its quotient by S and what is left over.
use mathlib.Core.Path.{◌≡◌, ◌∙◌, ap₂}
use Prim.Native.Nat.{ℕ, ◌+◌, ◌*◌, ◌/◌, ◌%◌, ◌<◌}
use native.Mathlib.Nat.{div-add-mod', mod-lt}
use Rattle.model.specs.Scale.{S}
use Rattle.model.proofs.Month.{scale_positive}

pub whole_again : (C quotient left : ℕ) → quotient ≡ C / S → left ≡ C % S → (quotient * S + left ≡ C) × (left < S)
whole_again C quotient left e f = (
  ap₂ (λ (q r : ℕ). q * S + r) e f ∙ div-add-mod' C S,
  rw f (mod-lt C scale_positive),
)
