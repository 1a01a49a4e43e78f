-- The least opening that is good enough.
use Rattle.std.specs.Prelude.{ℕ, ◌+◌, Bool, List, leb}
use Rattle.model.specs.declared.Head.{Head}
use Rattle.model.specs.declared.Question.TheVariants.{Survive}
use Rattle.model.specs.Plan.{plan_of, opened}
use Rattle.model.specs.Bounds.{lower}
use Rattle.target_rows.specs.Least.{least}

-- whether the "lower survival bound" of the plan with this opening "reaches the target"
unfoldable pub reaches : Head → List ℕ → ℕ → ℕ → Bool
reaches h row target v = leb target (lower (plan_of (opened h v) row) Survive)

-- Document 02: "the smallest opening whose lower survival bound reaches the target", of 0 to the plan's, "taken as the largest allowed"; one above that
-- where none does
unfoldable pub least_opening : Head → List ℕ → ℕ → ℕ
least_opening h row target = least (h.opening + 1) (reaches h row target)
