-- Survival at every opening from 0 to the plan's: what is refused with which number, and what the call leaves in lent memory, for every input.
use Rattle.std.specs.Prelude.{ℕ, zero, suc, ◌+◌, ◌*◌, List, [], ◌∷◌, ◌++◌, length}
use Rattle.model.specs.declared.Head.{Head}
use Rattle.model.specs.declared.Ask.{Ask}
use Rattle.model.specs.declared.Question.TheVariants.{Survive}
use Rattle.model.specs.Plan.{plan_of, opened}
use Rattle.model.specs.MonthRule.{Row}
use Rattle.model.specs.Bounds.{lower, upper}
use Rattle.model.specs.Refusal.{first, plan_checks, room_check, survival_workspace}
use Rattle.model.specs.Memory.{filled_after, cleared_after}

-- asking whether the fund lasts, of the plan with another opening: "asking one by one"
abbrev pub opening_ask : Head → ℕ → Ask
opening_ask h v = record { head = opened h v; question = Survive }

-- two rows in pairs, from 0 to n − 1
unfoldable pub interleaved : ℕ → Row → Row → List ℕ
interleaved zero low high = []
interleaved (suc n) low high = low 0 ∷ high 0 ∷ interleaved n (λ v. low (suc v)) (λ v. high (suc v))

-- Document 02: "lower and upper for each, opening 0 first", of the plan with each opening "from 0 to the plan's"
unfoldable pub survival_bounds : Head → List ℕ → List ℕ
survival_bounds h row =
    interleaved (h.opening + 1) (λ v. lower (plan_of (opened h v) row) Survive) (λ v. upper (plan_of (opened h v) row) Survive)

-- "2 × (u + 1) numbers" of the lent row
abbrev pub bounds_needed : Head → ℕ
bounds_needed h = 2 * (h.opening + 1)

-- "with a desk as for survive"; "It refuses a short row with 11, like a short desk."
unfoldable pub openings_refusal : Head → List ℕ → ℕ → ℕ → ℕ
openings_refusal h row room places =
    first (plan_checks h row ++ room_check (survival_workspace h) room ∷ room_check (bounds_needed h) places ∷ [])

-- the lent row after the call, with a workspace of the given length: "A longer lent row stays untouched past 2 × (u + 1) numbers."
abbrev pub bounds_after : Head → List ℕ → ℕ → List ℕ → List ℕ
bounds_after h row room bounds = filled_after (openings_refusal h row room (length bounds)) (bounds_needed h) (survival_bounds h row) bounds

-- and the workspace, with a lent row of the given length
abbrev pub openings_workspace_after : Head → List ℕ → ℕ → List ℕ → List ℕ
openings_workspace_after h row places workspace =
    cleared_after (openings_refusal h row (length workspace) places) (survival_workspace h) workspace
