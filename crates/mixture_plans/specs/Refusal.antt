-- When a mixture is turned away, and with which number.
use Rattle.std.specs.Prelude.{ℕ, ◌<◌, ◌≤◌, ◌≡◌, Bool, ◌||◌, eqb, ltb, length, get_or}
use mathlib.Core.List.{List, [], ◌∷◌, ◌++◌, flat_map}
use Rattle.model.specs.declared.Head.{Head}
use Rattle.model.specs.declared.Ask.{Ask}
use Rattle.model.specs.declared.Question.{Question}
use Rattle.model.specs.Limits.{max_plans}
use Rattle.model.specs.Refusal.{first, plan_checks, outside, workspace_needed, room_check}
use Rattle.mixture_plans.specs.declared.Mixture.{Mixture}
use Rattle.mixture_plans.specs.Components.{mixture_check}
use Rattle.mixture_plans.specs.Rows.{HeadRow, rows_of, components_of}

-- 18 mix: "0 or above 8 plans"
unfoldable pub count_outside : ℕ → Bool
count_outside n = eqb n 0 || ltb max_plans n

-- … and what the functions below that check need: a count within the limits, of heads and weights that are there
pub record Counted (m : Mixture) : Type 0 where
  pub some : 0 < m.count
  pub fits : m.count ≤ max_plans
  pub heads_long : length m.heads ≡ max_plans
  pub weights_long : length m.weights ≡ max_plans

-- "The earliest refused plan gives its own number": the checks of each plan, one plan after another
unfoldable pub each_checks : List HeadRow → List (ℕ × Bool)
each_checks rows = flat_map (λ r. plan_checks r.0 r.1) rows

-- the checks of a mixture, whatever is asked of it: 18 for the count "before any plan is read", each plan's, and then 18 "after 9"
unfoldable pub mixture_checks : Mixture → List ℕ → List (ℕ × Bool)
mixture_checks m row = (18, count_outside m.count) ∷ each_checks (rows_of m row) ++ mixture_check (components_of m row) ∷ []

unfoldable pub mixture_refusal : Mixture → List ℕ → ℕ
mixture_refusal m row = first (mixture_checks m row)

-- A mixture is accepted if none of its checks fits.
abbrev pub MixtureAccepted : Mixture → List ℕ → Type 0
MixtureAccepted m row = mixture_refusal m row ≡ 0

-- the first plan's head, which is every plan's where they are alike; there always is one
abbrev pub plans_head : Mixture → Head
plans_head m = get_or m.heads 0 (record { months = 0; opening = 0; sizes = 0; income = 0 })

-- a question of one plan: "The desk is the question's on one plan."
abbrev pub ask_of_one : Mixture → Question → Ask
ask_of_one m q = record { head = plans_head m; question = q }

-- Asking a mixture: its own checks, then 10 and 11
unfoldable pub mixture_ask_refusal : Mixture → Question → List ℕ → ℕ → ℕ
mixture_ask_refusal m q row room =
    first (mixture_checks m row ++ (10, outside q) ∷ room_check (workspace_needed (ask_of_one m q)) room ∷ [])
