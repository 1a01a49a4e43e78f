-- When the least opening is turned away, in the order of the refusal table.
use Rattle.std.specs.Prelude.{ℕ, Bool, ◌||◌, List, [], ◌∷◌, ◌++◌, ltb, eqb}
use Rattle.model.specs.declared.Head.{Head}
use Rattle.model.specs.Scale.{S}
use Rattle.model.specs.Refusal.{first, survival_workspace, bounds_checks}
use Rattle.opening_search.specs.Least.{least_opening}

-- "a target of 0 or above S"
unfoldable pub target_outside : ℕ → Bool
target_outside target = eqb target 0 || ltb S target

-- "new number 14 (target), in the place of 10"; "Its desk is that of survive"
unfoldable pub target_checks : Head → List ℕ → ℕ → ℕ → List (ℕ × Bool)
target_checks h row target room = bounds_checks h row (14, target_outside target) (survival_workspace h) room

-- the first of these checks that fits
abbrev pub target_refusal : Head → List ℕ → ℕ → ℕ → ℕ
target_refusal h row target room = first (target_checks h row target room)

-- "no opening from 0 to the largest reaches the target"
unfoldable pub none_reaches : Head → List ℕ → ℕ → Bool
none_reaches h row target = ltb h.opening (least_opening h row target)

-- "and with new number 15 (none), after 11"
unfoldable pub least_refusal : Head → List ℕ → ℕ → ℕ → ℕ
least_refusal h row target room = first (target_checks h row target room ++ (15, none_reaches h row target) ∷ [])
