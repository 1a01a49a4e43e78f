-- The round trips of the two calls, of what their contracts say that they answer and leave.
use Prim.Native.Nat.{ℕ, ◌^◌, ◌<◌, ◌≤◌}
use mathlib.Core.Path.{◌≡◌, sym, ap, ap₂, ◌∙◌}
use mathlib.Core.List.{List, ◌++◌}
use native.Mathlib.Omega.{arith}
use borrow.Author.Tests.{le-ltb}
use lib.ListN.{length, get_or, take, drop}
use lib.Seq.{take_at}
use Rattle.model.specs.declared.Head.{Head}
use Rattle.model.specs.Plan.{row_length}
use Rattle.model.specs.Format.{byte_length, bytes_of, head_of, row_of}
use Rattle.model.specs.Refusal.{Accepted, read_refusal, write_refusal}
use Rattle.codec.specs.Answers.{read_answer, row_after, write_answer, bytes_after}
use Rattle.plan_bits.proofs.RefusalLaws.{Readable, readable, accepts, written, write_room}
use Rattle.codec.proofs.Answered.{read_as, written_as, head_answered, head_number, length_answered, length_number}
use Rattle.model.proofs.MemoryLaws.{filled}
use Rattle.codec.proofs.PlanRead.{row_left}
use Rattle.codec.proofs.RoundTrip.{length_back, head_back, row_back, readable_back, bytes_back}

-- What is written reads back the same head and row: a plan is written into `lent` bytes, and what is written is read into an `other` row.
module _
    (h : Head)
    (row lent other : List ℕ)
    (done : (write_answer h row (length lent)).refusal ≡ 0)
    (fits : row_length h ≤ length other)
  where
    none : write_refusal h row (length lent) ≡ 0
    none = sym (length_number _ (byte_length h)) ∙ done

    accepted : Accepted h row
    accepted = (written h row (length lent) none).0

    abbrev written_bytes : List ℕ
    written_bytes = take (write_answer h row (length lent)).length (bytes_after h row lent)

    written_bytes_are : written_bytes ≡ bytes_of h row
    written_bytes_are =
        ap₂ (λ n l. take n l) (ap (λ a. a.length) (length_answered _ (byte_length h) none)) (filled _ (byte_length h) (bytes_of h row) lent none)
        ∙ take_at (bytes_of h row) _ (byte_length h) (length_back h row accepted)

    read_none : read_refusal (bytes_of h row) (length other) ≡ 0
    read_none = accepts (bytes_of h row) (length other) (readable_back h row accepted (length other) fits)

    pub same_head : read_answer written_bytes (length other) ≡ read_as 0 h
    same_head =
        ap (λ l. read_answer l (length other)) written_bytes_are
        ∙ head_answered _ (head_of (bytes_of h row)) read_none
        ∙ ap (read_as 0) (head_back h row accepted)

    pub same_row : row_after written_bytes other ≡ row ++ drop (row_length h) other
    same_row =
        ap (λ l. row_after l other) written_bytes_are
        ∙ filled _ (row_length (head_of (bytes_of h row))) (row_of (bytes_of h row)) other read_none
        ∙ ap₂ (λ l h'. l ++ drop (row_length h') other) (row_back h row accepted) (head_back h row accepted)

-- Every byte string that reading accepts is written back the same, byte for byte: bytes are read into a `lent` row, and the plan that is
-- read is written into `other` bytes.
module _
    (bytes lent other : List ℕ)
    (are_bytes : (i : ℕ) → get_or bytes i 0 < 2 ^ 8)
    (done : (read_answer bytes (length lent)).refusal ≡ 0)
    (fits : length bytes ≤ length other)
  where
    none_wrong : read_refusal bytes (length lent) ≡ 0
    none_wrong = sym (head_number _ (head_of bytes)) ∙ done

    known : Readable bytes (length lent)
    known = readable bytes (length lent) none_wrong

    abbrev head : Head
    head = (read_answer bytes (length lent)).head

    abbrev row_read : List ℕ
    row_read = take (row_length head) (row_after bytes lent)

    head_is : head ≡ head_of bytes
    head_is = ap (λ a. a.head) (head_answered _ (head_of bytes) none_wrong)

    row_read_is : row_read ≡ row_of bytes
    row_read_is = ap (λ h. take (row_length h) (row_after bytes lent)) head_is ∙ row_left bytes lent none_wrong

    write_none : write_refusal (head_of bytes) (row_of bytes) (length other) ≡ 0
    write_none =
        write_room (head_of bytes) (row_of bytes) (length other) known.accepted
        ∙ rw (le-ltb (length other) (byte_length (head_of bytes)) (omega (arith, known.length_is)))

    pub same_length : write_answer head row_read (length other) ≡ written_as 0 (length bytes)
    same_length =
        ap₂ (λ h l. write_answer h l (length other)) head_is row_read_is
        ∙ length_answered _ (byte_length (head_of bytes)) write_none
        ∙ ap (written_as 0) (sym known.length_is)

    pub same_bytes : bytes_after head row_read other ≡ bytes ++ drop (length bytes) other
    same_bytes =
        ap₂ (λ h l. bytes_after h l other) head_is row_read_is
        ∙ filled _ (byte_length (head_of bytes)) (bytes_of (head_of bytes) (row_of bytes)) other write_none
        ∙ ap₂ (λ l n. l ++ drop n other) (bytes_back bytes (length lent) are_bytes known) (sym known.length_is)
