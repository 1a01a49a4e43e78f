-- The line that quotes the least opening of a plan for a target, from the plan's bytes.
use Rattle.std.specs.Prelude.{ℕ, cond, List, eqb}
use Rattle.model.specs.Limits.{row_room, survival_room}
use Rattle.model.specs.Format.{head_of, row_of}
use Rattle.model.specs.Refusal.{read_refusal}
use Rattle.opening_search.specs.Answers.{LeastAnswer, least_answer}
use Rattle.report_lines.specs.Lines.{opening_line, refused_line}

-- "The answer shows the opening and its bounds"; where there is none, the refusal's number
unfoldable pub answer_line : LeastAnswer → List ℕ
answer_line a =
    cond (eqb a.refusal 0)
    (opening_line a.opening a.lower a.upper)
    (refused_line a.refusal)

-- the line of a plan's bytes and a target: bytes that reading refuses have its number
unfoldable pub quote_of : List ℕ → ℕ → List ℕ
quote_of bytes target =
    cond (eqb (read_refusal bytes row_room) 0)
    (answer_line (least_answer (head_of bytes) (row_of bytes) target survival_room))
    (refused_line (read_refusal bytes row_room))
