-- Document 02's claim sum "from the large end": the sizes that are not empty, the sum over them in that order, and how many they are.
use Rattle.std.specs.Prelude.{ℕ, zero, suc, ◌*◌, ◌-◌, min, cond, List, [], ◌∷◌, map, ltb, length, take}
use Rattle.model.specs.Sums.{total, count}
use Rattle.model.specs.Plan.{nth}
use Rattle.model.specs.MonthRule.{Row}

-- the sizes 1 to n "that are not empty", from the largest down
unfoldable pub filled_sizes : List ℕ → ℕ → List ℕ
filled_sizes severity zero = []
filled_sizes severity (suc n) =
    cond (ltb 0 (nth severity (suc n))) (suc n ∷ filled_sizes severity n) (filled_sizes severity n)

-- "The sum in that order, over the sizes that are not empty alone": of the claim sum's range, at the level s + c at which the claim comes
unfoldable pub filled_sum : List ℕ → Row → ℕ → ℕ
filled_sum severity next level =
    total (map (λ x. nth severity x * next (level - x)) (filled_sizes severity (min (level - 1) (length severity))))

-- "how many products it added: exactly the number of sizes in its range with a weight above 0"
unfoldable pub filled_count : List ℕ → ℕ → ℕ
filled_count severity level = count (λ weight. ltb 0 weight) (take (level - 1) severity)
