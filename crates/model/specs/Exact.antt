-- The exact side: which histories keep a condition, and what they weigh together. Nothing here is rounded or uses the month rule.
use Rattle.std.specs.Prelude.{ℕ, ◌-◌, Bool, ◌&&◌, cond, List, map, leb, eqb, pos, get_or, take}
use Rattle.model.specs.declared.Question.{Question}
use Rattle.model.specs.declared.Question.TheVariants.{Survive, Both, High, Low}
use Rattle.model.specs.Sums.{total, all}
use Rattle.model.specs.Plan.{Plan, horizon, sizes}
use Rattle.model.specs.History.{History, Surplus, known, surplus_path, at_least, at_most, claims, histories, history_weight}

-- U_1 to U_n where the fund opens at u
abbrev pub path_from : ℕ → ℕ → History → List Surplus
path_from income u h = surplus_path income (known (pos u)) h

-- "survive: U_t ≥ 1 for t = 1 to n", as "Ruin is U_t ≤ 0 at some t from 1 on"
unfoldable pub survives : ℕ → ℕ → History → Bool
survives income u h = all (at_least 1) (path_from income u h)

-- The condition of each question, as its line in the list of four says it. Document 02 besides: "high L holds only if u is at most L as well, with no months
-- too"; U_0 does not count in low.
unfoldable pub keeps : ℕ → Question → ℕ → History → Bool
keeps income Survive u h = survives income u h
keeps income (Both k) u h = survives income u h && eqb (claims h) k
keeps income (High L) u h = leb u L && survives income u h && all (at_most L) (path_from income u h)
keeps income (Low L) u h = survives income u h && all (at_least L) (path_from income u h)

-- "exactly k claims in the n months, ruin or not"
unfoldable pub has_claims : ℕ → History → Bool
has_claims k h = eqb (claims h) k

-- Document 02: the "first ruin falls" in month t, U_i ≥ 1 for i below t and U_t ≤ 0. An over claim in month t is such a ruin. Months are counted from 1, so
-- U_t has the index t − 1; a month that the path does not have ruins nothing.
unfoldable pub first_ruin : ℕ → ℕ → ℕ → History → Bool
first_ruin income t u h =
    all (at_least 1) (take (t - 1) (path_from income u h)) && at_most 0 (get_or (path_from income u h) (t - 1) (known (pos 1)))

-- "the weight of the histories that keep the condition"
unfoldable pub weight_of : Plan → (History → Bool) → ℕ
weight_of p condition = total (map (λ h. cond (condition h) (history_weight p h) 0) (histories (sizes p) (horizon p)))

-- "W is the sum of the weights of all histories that keep it, taken from the plan's numbers alone."
unfoldable pub exact : Plan → Question → ℕ
exact p q = weight_of p (keeps p.income q p.opening)

-- W at a place k of the count row
unfoldable pub exact_count : Plan → ℕ → ℕ
exact_count p k = weight_of p (has_claims k)

-- "The exact chance is the weight of the histories whose first ruin falls there": W of a month's line `fails t`
unfoldable pub exact_ruin : Plan → ℕ → ℕ
exact_ruin p t = weight_of p (first_ruin p.income t p.opening)
