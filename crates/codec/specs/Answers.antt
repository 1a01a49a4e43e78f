-- What reading and writing answer and leave in lent memory, for every input: "A refusal gives its number, zero in each number it would have
-- answered, and changes no lent memory."
use Rattle.std.specs.Prelude.{ℕ, cond, List, eqb, length, replicate, Result, Ok, Err}
use Rattle.model.specs.declared.Head.{Head}
use Rattle.model.specs.declared.refusal.Refusal.{Refusal}
use Rattle.codec.specs.declared.BytePlan.{BytePlan}
use Rattle.model.specs.Limits.{row_room}
use Rattle.model.specs.Plan.{row_length}
use Rattle.model.specs.Format.{head_of, row_of, byte_length, bytes_of}
use Rattle.model.specs.Memory.{filled_after}
use Rattle.model.specs.Refusal.{refusal_number, read_refusal, write_refusal}

-- what a call that answers a head, a length or a whole plan answers in the paper's words: the number, 0 where it does not refuse, and the values
pub record ReadAnswer : Type 0 where
  pub refusal : ℕ
  pub head : Head

pub record WriteAnswer : Type 0 where
  pub refusal : ℕ
  pub length : ℕ

pub record PlanAnswer : Type 0 where
  pub refusal : ℕ
  pub head : Head
  pub row : List ℕ

unfoldable pub no_head : Head
no_head = record { months = 0; opening = 0; sizes = 0; income = 0 }

-- a call that answers a head
unfoldable pub head_answer : ℕ → Head → ReadAnswer
head_answer refusal h = cond (eqb refusal 0) (record { refusal = 0; head = h }) (record { refusal = refusal; head = no_head })

-- a call that answers a length
unfoldable pub length_answer : ℕ → ℕ → WriteAnswer
length_answer refusal n = cond (eqb refusal 0) (record { refusal = 0; length = n }) (record { refusal = refusal; length = 0 })

-- what the calls answer, so read
abbrev pub head_result : Result Head Refusal → ReadAnswer
head_result (Ok h) = record { refusal = 0; head = h }
head_result (Err r) = record { refusal = refusal_number r; head = no_head }

abbrev pub length_result : Result ℕ Refusal → WriteAnswer
length_result (Ok n) = record { refusal = 0; length = n }
length_result (Err r) = record { refusal = refusal_number r; length = 0 }

abbrev pub plan_result : Result BytePlan Refusal → PlanAnswer
plan_result (Ok p) = record { refusal = 0; head = p.head; row = p.row }
plan_result (Err r) = record { refusal = refusal_number r; head = no_head; row = replicate row_room 0 }

-- the answer to reading bytes, with a lent row of the given length, and the lent row after it
abbrev pub read_answer : List ℕ → ℕ → ReadAnswer
read_answer bytes room = head_answer (read_refusal bytes room) (head_of bytes)

abbrev pub row_after : List ℕ → List ℕ → List ℕ
row_after bytes row = filled_after (read_refusal bytes (length row)) (row_length (head_of bytes)) (row_of bytes) row

-- a plan read from bytes into a row of its own
unfoldable pub byte_plan : List ℕ → PlanAnswer
byte_plan bytes = record { refusal = a.refusal; head = a.head; row = row_after bytes (replicate row_room 0) }
  where
    a : ReadAnswer
    a = read_answer bytes row_room

-- the answer to writing a head and a row, with lent bytes of the given length, and the lent bytes after it
abbrev pub write_answer : Head → List ℕ → ℕ → WriteAnswer
write_answer h row room = length_answer (write_refusal h row room) (byte_length h)

abbrev pub bytes_after : Head → List ℕ → List ℕ → List ℕ
bytes_after h row bytes = filled_after (write_refusal h row (length bytes)) (byte_length h) (bytes_of h row) bytes
