-- When the bytes of a mixture are turned away, and with which number: "1 no byte at all; 18 a count of 0 or above 8; 1 fewer bytes than the weights need; then for
-- each plan in turn" its own number, "then 18".
use Rattle.std.specs.Prelude.{ℕ, Bool, not, cond, List, [], ◌∷◌, ◌++◌, map, eqb, ltb, length}
use Rattle.model.specs.Limits.{row_room}
use Rattle.model.specs.Format.{head_bytes, head_of}
use Rattle.model.specs.Refusal.{first, head_checks, read_refusal}
use Rattle.mixture_plans.specs.Components.{mixture_check}
use Rattle.mixture_plans.specs.Refusal.{count_outside}
use Rattle.mixture_bytes.specs.Format.{count_in, plans_start, parts_in, components_in}

-- a plan's own number, which fits where it is one
abbrev pub part_check : List ℕ → ℕ × Bool
part_check part = (read_refusal part row_room, not (eqb (read_refusal part row_room) 0))

-- what can be told of a plan before its length is looked at: 1, and its head's own numbers
unfoldable pub early_refusal : List ℕ → ℕ
early_refusal bytes = cond (ltb (length bytes) head_bytes) 1 (first (head_checks (head_of bytes)))

-- the earliest refused plan's own number
abbrev pub parts_refusal : List (List ℕ) → ℕ
parts_refusal parts = first (map part_check parts)

-- the checks before any plan is read
unfoldable pub count_checks : List ℕ → List (ℕ × Bool)
count_checks bytes =
    (1, eqb (length bytes) 0)
    ∷ (18, count_outside (count_in bytes))
    ∷ (1, ltb (length bytes) (plans_start (count_in bytes)))
    ∷ []

abbrev pub count_refusal : List ℕ → ℕ
count_refusal bytes = first (count_checks bytes)

unfoldable pub bytes_refusal : List ℕ → ℕ
bytes_refusal bytes = first (count_checks bytes ++ map part_check (parts_in bytes) ++ mixture_check (components_in bytes) ∷ [])
