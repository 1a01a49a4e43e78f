-- Laws of a refusal's number: it is not 0, so that 0 says that nothing is refused.
use Prim.Native.Nat.{ℕ, ◌<◌}
use mathlib.Core.Path.{◌≡◌, ap, ◌∙◌}
use native.Mathlib.Omega.{arith}
use Rattle.model.specs.declared.refusal.Refusal.{Refusal}
use Rattle.model.specs.declared.refusal.Refusal.TheVariants.{Stub, Horizon, Opening, Sizes, Length, Padding, Chance, Weights, Tail, Outside, Workspace, Kind, Rule, Target, Unreached, Income, Span, Mixture}
use Rattle.std.specs.Prelude.{Result, Err}
use Rattle.std.specs.Result.{IsErrAnd}
use Rattle.std.proofs.lemmas.Result.{err_from_is_err_and}
use Rattle.model.specs.Refusal.{refusal_number, refused_with}

pub number_above_0 : (r : Refusal) → 0 < refusal_number r
number_above_0 Stub = omega arith
number_above_0 Horizon = omega arith
number_above_0 Opening = omega arith
number_above_0 Sizes = omega arith
number_above_0 Length = omega arith
number_above_0 Padding = omega arith
number_above_0 Chance = omega arith
number_above_0 Weights = omega arith
number_above_0 Tail = omega arith
number_above_0 Outside = omega arith
number_above_0 Workspace = omega arith
number_above_0 Kind = omega arith
number_above_0 Rule = omega arith
number_above_0 Target = omega arith
number_above_0 Unreached = omega arith
number_above_0 Income = omega arith
number_above_0 Span = omega arith
number_above_0 Mixture = omega arith

-- where a check answers a refusal, its definition is not 0
pub not_accepted : (r : Refusal) (n : ℕ) → refusal_number r ≡ n → n ≡ 0 → ⊥
not_accepted r n is zero = omega (arith, number_above_0 r, is, zero)

-- a refusal that `?` hands on
pub handed_on : {A : Type 0} (r : Result A Refusal) (e : Refusal) → IsErrAnd r (λ y. y ≡ e) → r ≡ Err e
handed_on r e h = let p = err_from_is_err_and r h in p.1 ∙ ap (λ y. Err y) p.2

pub passed_on : {A : Type 0} (r : Result A Refusal) (e : Refusal) → IsErrAnd r (λ y. y ≡ e) → refused_with r ≡ refusal_number e
passed_on r e h = ap refused_with (handed_on r e h)
