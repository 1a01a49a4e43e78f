-- The two bounds of a mixture's answer, and what document 02 says of them.
use Rattle.std.specs.Prelude.{ℕ, ◌+◌, ◌*◌, ◌-◌, ◌^◌, ◌≤◌, max, List, [], ◌∷◌, map, get_or}
use Rattle.model.specs.declared.Rounding.{Rounding}
use Rattle.model.specs.declared.Rounding.TheVariants.{Down, Up}
use Rattle.model.specs.declared.Question.{Question}
use Rattle.model.specs.Scale.{S, quotient}
use Rattle.model.specs.Sums.{total}
use Rattle.model.specs.Plan.{Plan, horizon}
use Rattle.model.specs.Exact.{exact}
use Rattle.model.specs.Bounds.{bound, lower, upper, live_months, month_gap, largest}
use Rattle.mixture_plans.specs.Components.{Component, Components, plans_of}

-- what a number of each plan comes to together, each times the plan's weight
unfoldable pub weighted_sum : (Plan → ℕ) → Components → ℕ
weighted_sum f cs = total (map (λ (c : Component). c.weight * f c.plan) cs)

-- "The answer's lower bound is the weighted sum of the plans' lower bounds divided by S, rounded down, and the upper likewise up."
unfoldable pub mixture_bound : Rounding → Components → Question → ℕ
mixture_bound round cs q = quotient round (weighted_sum (λ p. bound round p q) cs) S

abbrev pub mixture_lower : Components → Question → ℕ
mixture_lower cs q = mixture_bound Down cs q

abbrev pub mixture_upper : Components → Question → ℕ
mixture_upper cs q = mixture_bound Up cs q

-- "The exact answer is the weighted sum of the exact ones": each plan's W, times its weight
unfoldable pub exact_mixture : Components → Question → ℕ
exact_mixture cs q = weighted_sum (λ p. exact p q) cs

-- the months of the plans, which are alike: those of the first
unfoldable pub months_of : Components → ℕ
months_of [] = 0
months_of (c ∷ cs) = horizon c.plan

-- the largest of a number of each plan
unfoldable pub widest : (Plan → ℕ) → List Plan → ℕ
widest f [] = 0
widest f (p ∷ ps) = max (f p) (widest f ps)

-- "the widest plan's gap"
abbrev pub widest_gap : Components → Question → ℕ
widest_gap cs q = widest (λ p. upper p q - lower p q) (plans_of cs)

-- the largest number of months with a chance above 0
abbrev pub most_live_months : Components → ℕ
most_live_months cs = widest (λ p. live_months p.chances) (plans_of cs)

-- What document 02 says of two numbers low and high: the exact answer "lies within the bounds, and they are apart by at most the widest plan's gap and one
-- part of S". The exact answer is in parts of S × S^(2n), and the bounds are in parts of S, so that S^(2n) is left.
pub record EnclosesMixture (cs : Components) (q : Question) (low high : ℕ) : Type 0 where
  pub below : low * S ^ (2 * months_of cs) ≤ exact_mixture cs q
  pub above : exact_mixture cs q ≤ high * S ^ (2 * months_of cs)
  pub gap : high ≤ low + (widest_gap cs q + 1)
  -- so the gap grows only with months that have a chance above 0
  pub gap_rule : high ≤ low + (month_gap * most_live_months cs + 1)

-- "No sum need pass 2^62", said of a mixture as it is worked out: of each product, and of the sum with the S − 1 that rounding up adds
pub record MixtureLimits (round : Rounding) (cs : Components) (q : Question) : Type 0 where
  pub product : (i : ℕ) → get_or (map (λ (c : Component). c.weight * bound round c.plan q) cs) i 0 ≤ largest
  pub sum_total : weighted_sum (λ p. bound round p q) cs + (S - 1) ≤ largest
