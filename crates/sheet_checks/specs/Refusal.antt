-- When a sheet is turned away (document 02, Job 4). The numbers 12 (kind) and 13 (rule) are new; the others are those of document 01's table.
use Rattle.std.specs.Prelude.{ℕ, Bool, true, false, not, ◌&&◌, ◌||◌, List, [], ◌∷◌, ◌++◌, ltb, eqb, length}
use Rattle.std.specs.Float.Ieee.{lt, ne}
use Rattle.std.specs.Float.Ieee.Scale.{finite}
use Rattle.model.specs.Scale.{S}
use Rattle.model.specs.Sums.{one_to, total, any}
use Rattle.model.specs.Plan.{plan_of}
use Rattle.model.specs.Refusal.{first, head_checks, tail_survivable, room_check}
use Rattle.doubles.specs.Doubles.{nought, one, within}
use Rattle.sheet_values.specs.declared.ChanceRule.{ChanceRule}
use Rattle.sheet_values.specs.declared.ChanceRule.TheVariants.{Level, Ramp}
use Rattle.sheet_values.specs.declared.RuleSheet.{RuleSheet}
use Rattle.sheet_values.specs.Sheet.{sheet_length, kind_of, first_of, step_of, alpha_of, sheet_of, sheet_head}
use Rattle.sheet_values.specs.Rules.{chance, weights, sheet_row}

-- whether the chance is the same in all months
abbrev pub is_level : ChanceRule → Bool
is_level (Level _) = true
is_level (Ramp _ _) = false

-- "a sheet not of 29 bytes with 5, never 1; a kind other than 1 or 2 with new number 12 (kind), right after 5"
unfoldable pub kind_checks : List ℕ → List (ℕ × Bool)
kind_checks bytes =
    (5, not (eqb (length bytes) sheet_length))
    ∷ (12, not (eqb (kind_of bytes) 1 || eqb (kind_of bytes) 2))
    ∷ []

-- "with new number 13 (rule), a double that is not finite, an alpha below 0 or not below 1, a level step that is not zero, or a chance outside 0 to 1
-- in any month from 1 to n"
unfoldable pub rule_checks : List ℕ → List (ℕ × Bool)
rule_checks bytes =
    (13, not (finite (first_of bytes) && finite (step_of bytes) && finite (alpha_of bytes)))
    ∷ (13, lt (alpha_of bytes) nought || not (lt (alpha_of bytes) one))
    ∷ (13, eqb (kind_of bytes) 1 && ne (step_of bytes) nought)
    ∷ (13, any (λ i. not (within (chance s.rule i))) (one_to s.months))
    ∷ []
  where
    s : RuleSheet
    s = sheet_of bytes

-- "then 8 if the weights pass S (a guard that no sheet should reach), 9"
unfoldable pub weight_checks : RuleSheet → List (ℕ × Bool)
weight_checks s =
    (8, ltb S (total (weights s.alpha s.sizes)))
    ∷ (9, tail_survivable (plan_of (sheet_head s) (sheet_row s)))
    ∷ []

-- 5, 12, "then 2, 3 and 4; then" 13, 8, 9. The head's checks hold 16 and 17 too, which an income of 1 never gives.
unfoldable pub sheet_checks : List ℕ → List (ℕ × Bool)
sheet_checks bytes =
    kind_checks bytes ++ (head_checks (sheet_head (sheet_of bytes)) ++ (rule_checks bytes ++ weight_checks (sheet_of bytes)))

-- "and 11 as in reading": lent memory shorter than what is needed
unfoldable pub sheet_refusal : List ℕ → ℕ → ℕ → ℕ
sheet_refusal bytes needed room = first (sheet_checks bytes ++ room_check needed room ∷ [])
