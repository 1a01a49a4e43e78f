-- A mixture in memory: "a count, eight heads and eight weights, those past the count not looked at, and one lent row with the plans' rows end to end".
use Rattle.std.specs.Prelude.{ℕ, take, drop}
use mathlib.Core.List.{List, [], ◌∷◌, map, zip_with}
use Rattle.model.specs.declared.Head.{Head}
use Rattle.model.specs.Plan.{Plan, plan_of, row_length}
use Rattle.mixture_plans.specs.declared.Mixture.{Mixture}
use Rattle.mixture_plans.specs.Components.{Components}

-- a head with the row that is taken for it
abbrev pub HeadRow : Type 0
HeadRow = Head × List ℕ

-- The plans' rows, "end to end". "A row too short refuses the first plan it does not hold whole …, one too long the last plan": the last plan takes all that
-- is left.
unfoldable pub plan_rows : List Head → List ℕ → List HeadRow
plan_rows [] row = []
plan_rows (h ∷ []) row = (h, row) ∷ []
plan_rows (h ∷ h' ∷ hs) row = (h, take (row_length h) row) ∷ plan_rows (h' ∷ hs) (drop (row_length h) row)

-- the heads and the weights that are looked at
abbrev pub heads_used : Mixture → List Head
heads_used m = take m.count m.heads

abbrev pub weights_used : Mixture → List ℕ
weights_used m = take m.count m.weights

-- each plan with its row
abbrev pub rows_of : Mixture → List ℕ → List HeadRow
rows_of m row = plan_rows (heads_used m) row

abbrev pub plan_at : HeadRow → Plan
plan_at r = plan_of r.0 r.1

abbrev pub plans_in : Mixture → List ℕ → List Plan
plans_in m row = map plan_at (rows_of m row)

-- each plan with its weight
unfoldable pub weighed : List ℕ → List HeadRow → Components
weighed weights rows = zip_with (λ w r. record { weight = w; plan = plan_at r }) weights rows

unfoldable pub components_of : Mixture → List ℕ → Components
components_of m row = weighed (weights_used m) (rows_of m row)
