-- The bounds of a mixture: enclosure, gap and limits from those of its plans, and what equal plans come to.
use Prim.{Unit, tt}
use Prim.Native.Nat.{ℕ, suc, ◌+◌, ◌*◌, ◌-◌, ◌^◌, ◌≤◌, zero-le}
use mathlib.Core.Path.{◌≡◌, refl, sym, ap, ◌∙◌}
use mathlib.Core.List.{[], ◌∷◌, map}
use native.Mathlib.Omega.{arith}
use native.Mathlib.Nat.{le_refl, mul_assoc, mul_comm, mul-add, add-mul, zero-mul, mul-zero, add-zero, mul-le-mul_left, le_of_mul-le-mul_right}
use Rattle.model.specs.declared.Rounding.{Rounding}
use Rattle.model.specs.declared.Rounding.TheVariants.{Down, Up}
use Rattle.model.specs.declared.Question.{Question}
use Rattle.model.specs.Scale.{S, quotient}
use Rattle.model.specs.Sums.{total}
use Rattle.model.specs.Plan.{Plan, nth, horizon}
use Rattle.model.specs.Exact.{exact}
use Rattle.model.specs.Bounds.{bound, lower, upper, live_months, EnclosesQuestion, largest}
use Rattle.model.proofs.Quotients.{Direction, downwards, upwards, times_right, quotient_gap, quotient_le, quotient_add}
use Rattle.model.proofs.Month.{scale_positive, nth_le_total}
use Rattle.mixture_plans.specs.Components.{Component, Components, weights_of, plans_of}
use Rattle.mixture.specs.Bounds.{weighted_sum, mixture_bound, exact_mixture, months_of, widest, widest_gap, most_live_months, EnclosesMixture, MixtureLimits}

-- what holds of each plan of a mixture
unfoldable pub Each : (Plan → Type 0) → Components → Type 0
Each P [] = Unit {0}
Each P (c ∷ cs) = P c.plan × Each P cs

-- what holds of each holds of each in another way
pub each_so : {P Q : Plan → Type 0} → ((p : Plan) → P p → Q p) → (cs : Components) → Each P cs → Each Q cs
unfolding Each
each_so f [] h = tt
each_so f (c ∷ cs) h = (f c.plan h.0, each_so f cs h.1)

-- … and so does what holds of each in two ways
pub each_with : {P Q R : Plan → Type 0} → ((p : Plan) → P p → Q p → R p) → (cs : Components) → Each P cs → Each Q cs → Each R cs
unfolding Each
each_with f [] h k = tt
each_with f (c ∷ cs) h k = (f c.plan h.0 k.0, each_with f cs h.1 k.1)

-- sums of numbers that are each related at the same two scales
weighted_related :
    {rel : ℕ → ℕ → Type 0} {round : Rounding} (d : Direction rel round) (f g : Plan → ℕ) (a b : ℕ) (cs : Components) →
    Each (λ p. rel (f p * a) (g p * b)) cs → rel (weighted_sum f cs * a) (weighted_sum g cs * b)
unfolding Each weighted_sum total
weighted_related d f g a b [] h = rw (zero-mul a, zero-mul b) (d.same 0)
weighted_related d f g a b (c ∷ cs) h =
    rw (
      add-mul (c.weight * f c.plan) (weighted_sum f cs) a,
      add-mul (c.weight * g c.plan) (weighted_sum g cs) b,
      mul_assoc c.weight (f c.plan) a,
      mul_assoc c.weight (g c.plan) b,
    )
    (d.plus (d.times c.weight h.0) (weighted_related d f g a b cs h.1))

-- numbers that are each at most k more
weighted_more :
    (f g : Plan → ℕ) (k : ℕ) (cs : Components) → Each (λ p. g p ≤ f p + k) cs → weighted_sum g cs ≤ weighted_sum f cs + total (weights_of cs) * k
unfolding Each weighted_sum total
weighted_more f g k [] h = zero-le
weighted_more f g k (c ∷ cs) h =
    omega (
      arith,
      weighted_more f g k cs h.1,
      mul-le-mul_left c.weight h.0,
      mul-add c.weight (f c.plan) k,
      add-mul c.weight (total (weights_of cs)) k,
    )

-- the largest of a number of each plan
widest_each : (f : Plan → ℕ) (cs : Components) (k : ℕ) → widest f (plans_of cs) ≤ k → Each (λ p. f p ≤ k) cs
unfolding Each widest
widest_each f [] k h = tt
widest_each f (c ∷ cs) k h = (omega (arith, h), widest_each f cs k (omega (arith, h)))

-- numbers that are each at most k
weighted_none : (cs : Components) → weighted_sum (λ p. 0) cs ≡ 0
unfolding weighted_sum total
weighted_none [] = refl
weighted_none (c ∷ cs) = omega (arith, weighted_none cs, mul-zero c.weight)

pub weighted_most : (g : Plan → ℕ) (k : ℕ) (cs : Components) → Each (λ p. g p ≤ k) cs → weighted_sum g cs ≤ total (weights_of cs) * k
weighted_most g k cs h =
    omega (arith, weighted_none cs, weighted_more (λ p. 0) g k cs (each_so (λ p l. omega (arith, l)) cs h))

-- "No sum need pass 2^62"
pub mixture_limits : (round : Rounding) (cs : Components) (q : Question) → Each (λ p. bound round p q ≤ S) cs → total (weights_of cs) ≡ S → MixtureLimits round cs q
unfolding weighted_sum S largest nth
mixture_limits round cs q fits add =
    let most = rw add at (weighted_most (λ p. bound round p q) S cs fits) in
    record { product = λ i. omega (arith, most, nth_le_total (map (λ (c : Component). c.weight * bound round c.plan q) cs) (suc i)); sum_total = omega (arith, most) }

-- Plans whose bounds are one number: that is the mixture's bound, since a whole number of S is not rounded.
weighted_equal : (f : Plan → ℕ) (b : ℕ) (cs : Components) → Each (λ p. f p ≡ b) cs → weighted_sum f cs ≡ total (weights_of cs) * b
unfolding Each weighted_sum total
weighted_equal f b [] h = sym (zero-mul b)
weighted_equal f b (c ∷ cs) h =
    omega (arith, weighted_equal f b cs h.1, ap (λ (n : ℕ). c.weight * n) h.0, add-mul c.weight (total (weights_of cs)) b)

pub equal_bounds :
    (round : Rounding) (cs : Components) (q : Question) (b : ℕ) → Each (λ p. bound round p q ≡ b) cs → total (weights_of cs) ≡ S → mixture_bound round cs q ≡ b
unfolding mixture_bound
equal_bounds round cs q b h add =
    let none : quotient round 0 S ≡ 0 = omega (arith, quotient_le round 0 S 0 scale_positive zero-le) in
    ap (λ (n : ℕ). quotient round n S) (weighted_equal (λ p. bound round p q) b cs h ∙ ap (λ (n : ℕ). n * b) add ∙ mul_comm S b ∙ sym (add-zero (b * S)))
    ∙ quotient_add round b 0 S scale_positive
    ∙ ap (λ (n : ℕ). b + n) none
    ∙ add-zero b

-- A mixture of which each plan's bounds enclose its exact answer: all plans have the same months, and the weights add up to S.
module _
    (cs : Components) (q : Question) (each : Each (λ p. EnclosesQuestion p q (lower p q) (upper p q)) cs) (long : Each (λ p. horizon p ≡ months_of cs) cs)
    (weights_add : total (weights_of cs) ≡ S)
  where
    abbrev scale : ℕ
    scale = S ^ (2 * months_of cs)

    -- one bound, at the scale of all months and one S more
    scaled :
        {rel : ℕ → ℕ → Type 0} {round : Rounding} (d : Direction rel round) → Each (λ p. rel (bound round p q * scale) (exact p q * S)) cs →
        rel (mixture_bound round cs q * scale * S) (exact_mixture cs q * S)
    unfolding mixture_bound exact_mixture
    scaled {rel} {round} d h =
        let sum : ℕ = weighted_sum (λ p. bound round p q) cs in
        rw (mul_assoc (quotient round sum S) scale S, mul_comm scale S, ← mul_assoc (quotient round sum S) S scale)
        (d.then (times_right d scale (d.rounds sum S scale_positive)) (weighted_related d (λ p. bound round p q) (λ p. exact p q) scale S cs h))

    gap_of : (k : ℕ) → Each (λ p. upper p q ≤ lower p q + k) cs → mixture_bound Up cs q ≤ mixture_bound Down cs q + (k + 1)
    unfolding mixture_bound
    gap_of k h =
        quotient_gap (weighted_sum (λ p. lower p q) cs) (weighted_sum (λ p. upper p q) cs) S k scale_positive
        (rw weights_add at (weighted_more (λ p. lower p q) (λ p. upper p q) k cs h))

    pub mixture_encloses : EnclosesMixture cs q (mixture_bound Down cs q) (mixture_bound Up cs q)
    mixture_encloses =
        record {
          below =
              le_of_mul-le-mul_right
              (scaled downwards (each_with (λ p h e. rw (← e) h.below) cs each long)) scale_positive;
          above =
              le_of_mul-le-mul_right
              (scaled upwards (each_with (λ p h e. rw (← e) h.above) cs each long)) scale_positive;
          gap = gap_of (widest_gap cs q) (each_so (λ p h. omega (arith, h)) cs (widest_each (λ p. upper p q - lower p q) cs (widest_gap cs q) (le_refl (widest_gap cs q))));
          gap_rule =
              gap_of (1 * most_live_months cs)
              (each_with (λ p h l. omega (arith, h.gap, l)) cs each
              (widest_each (λ p. live_months p.chances) cs (most_live_months cs) (le_refl (most_live_months cs))));
        }
