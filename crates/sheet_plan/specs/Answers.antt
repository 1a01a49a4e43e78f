-- What a sheet's calls answer and leave in lent memory, for every input, as reading and writing plan bytes do.
use Rattle.std.specs.Prelude.{ℕ, List, length}
use Rattle.model.specs.declared.Head.{Head}
use Rattle.model.specs.Plan.{row_length}
use Rattle.model.specs.Format.{byte_length, bytes_of}
use Rattle.codec.specs.Answers.{ReadAnswer, WriteAnswer, head_answer, length_answer}
use Rattle.model.specs.Memory.{filled_after}
use Rattle.sheet_values.specs.Sheet.{sheet_of, sheet_head}
use Rattle.sheet_values.specs.Rules.{sheet_row}
use Rattle.sheet_checks.specs.Refusal.{sheet_refusal}

-- the head and the row of the plan that a sheet's bytes make
abbrev pub plan_head : List ℕ → Head
plan_head bytes = sheet_head (sheet_of bytes)

abbrev pub plan_row : List ℕ → List ℕ
plan_row bytes = sheet_row (sheet_of bytes)

-- the answer to reading a sheet, with a lent row of the given length, and the lent row after it
abbrev pub sheet_answer : List ℕ → ℕ → ReadAnswer
sheet_answer bytes room = head_answer (sheet_refusal bytes (row_length (plan_head bytes)) room) (plan_head bytes)

abbrev pub sheet_row_after : List ℕ → List ℕ → List ℕ
sheet_row_after bytes row =
    filled_after (sheet_refusal bytes (row_length (plan_head bytes)) (length row)) (row_length (plan_head bytes)) (plan_row bytes) row

-- the answer to writing a sheet's plan, with lent bytes of the given length, and the lent bytes after it
abbrev pub plan_answer : List ℕ → ℕ → WriteAnswer
plan_answer bytes room = length_answer (sheet_refusal bytes (byte_length (plan_head bytes)) room) (byte_length (plan_head bytes))

abbrev pub plan_bytes_after : List ℕ → List ℕ → List ℕ
plan_bytes_after bytes lent =
    filled_after
    (sheet_refusal bytes (byte_length (plan_head bytes)) (length lent))
    (byte_length (plan_head bytes))
    (bytes_of (plan_head bytes) (plan_row bytes))
    lent
