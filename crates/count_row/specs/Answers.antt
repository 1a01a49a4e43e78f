-- What the call answers, for every input: "A refusal gives its number, zero in each number it would have answered, and changes no lent memory."
use Rattle.std.specs.Prelude.{ℕ, cond, List, eqb, replicate, Result, Ok, Err}
use Rattle.model.specs.declared.Head.{Head}
use Rattle.model.specs.declared.refusal.Refusal.{Refusal}
use Rattle.model.specs.declared.Rounding.TheVariants.{Down, Up}
use Rattle.count_row.specs.declared.CountRow.{CountRow}
use Rattle.model.specs.Limits.{places}
use Rattle.model.specs.Plan.{plan_of}
use Rattle.model.specs.CountRow.{count_row, tabulate}
use Rattle.model.specs.Refusal.{refusal_number, count_refusal}

-- what the call answers in the paper's words: the number, 0 where it does not refuse, and the rows
pub record CountAnswer : Type 0 where
  pub refusal : ℕ
  pub row : CountRow

-- "It comes back whole, as a row of … lower and a row of … upper bounds"
unfoldable pub count_rows : List ℕ → CountRow
count_rows chances =
    record { lower = tabulate places (count_row Down chances); upper = tabulate places (count_row Up chances) }

-- the count row of a refusal
unfoldable pub count_refused : ℕ → CountAnswer
count_refused number = record { refusal = number; row = record { lower = replicate places 0; upper = replicate places 0 } }

-- what the call answers, so read
abbrev pub count_result : Result CountRow Refusal → CountAnswer
count_result (Ok r) = record { refusal = 0; row = r }
count_result (Err r) = count_refused (refusal_number r)

-- the answer of the count row call
unfoldable pub count_answer : Head → List ℕ → CountAnswer
count_answer h row =
    cond (eqb number 0)
    (record { refusal = 0; row = count_rows (plan_of h row).chances })
    (count_refused number)
  where
    number : ℕ
    number = count_refusal h row
