-- What the search gives, for the functions below the call.
use Rattle.std.specs.Prelude.{ℕ, ◌+◌, cond, List, leb, ltb}
use Rattle.model.specs.declared.Rounding.TheVariants.{Down, Up}
use Rattle.questions.specs.Survival.{survival_row}
use Rattle.target_rows.specs.Least.{least}
use Rattle.opening_search.specs.Answers.{LeastAnswer, refused}

-- the least opening's answer, from V_0 of either rounding: what the search gives
unfoldable pub search_answer : ℕ → List ℕ → ℕ → List ℕ → ℕ → LeastAnswer
search_answer income severity opening chances target =
    cond (ltb opening v) (refused 15) (record { refusal = 0; opening = v; lower = survival_row Down income severity chances v; upper = survival_row Up income severity chances v })
  where
    v : ℕ
    v = least (opening + 1) (λ s. leb target (survival_row Down income severity chances s))
