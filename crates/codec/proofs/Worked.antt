-- The plan bytes of the report, as document 02 gives them: the definitions are computed.
use Prim.Native.Nat.{ℕ, ◌^◌, ◌≤◌}
use mathlib.Core.Path.{◌≡◌, refl, sym, ap, ap₂, ◌∙◌}
use mathlib.Core.List.{List, [], ◌∷◌, ◌++◌, flat_map}
use native.Mathlib.Omega.{arith}
use borrow.Author.Tests.{le-ltb}
use lib.ListN.{length, drop, replicate}
use Rattle.model.specs.declared.Head.{Head}
use Rattle.model.specs.Scale.{S}
use Rattle.model.specs.Sums.{total, any}
use Rattle.model.specs.Plan.{plan_of, row_length}
use Rattle.model.specs.Levels.{largest_level}
use Rattle.model.specs.Format.{bits, number, fields, head_bits, plan_bits, bit_length, byte_length, filled_bits, bytes_of, bits_of, head_of, row_of, fill_of}
use Rattle.model.specs.Refusal.{first, head_checks, number_checks, tail_survivable, Accepted, plan_refusal, read_refusal, write_refusal}
use Rattle.codec.specs.Answers.{read_answer, row_after, write_answer, bytes_after}
use Rattle.plan_bits.proofs.RefusalLaws.{Readable, readable, accepts, row_is, write_room}
use Rattle.codec.proofs.Answered.{read_as, written_as, head_answered, length_answered}
use Rattle.model.proofs.MemoryLaws.{filled}

-- Bytes are read, with 0, as a head and a row, and these are written, with 0, as the bytes, whatever memory is lent that is long enough.
pub record StandFor (bytes : List ℕ) (h : Head) (row : List ℕ) : Type 0 where
  pub read : (lent : List ℕ) → length row ≤ length lent → read_answer bytes (length lent) ≡ read_as 0 h
  pub row_read : (lent : List ℕ) → length row ≤ length lent → row_after bytes lent ≡ row ++ drop (length row) lent
  pub written : (lent : List ℕ) → length bytes ≤ length lent → write_answer h row (length lent) ≡ written_as 0 (length bytes)
  pub bytes_written : (lent : List ℕ) → length bytes ≤ length lent → bytes_after h row lent ≡ bytes ++ drop (length bytes) lent

module _
    (bytes : List ℕ)
    (h : Head)
    (row : List ℕ)
    (none : read_refusal bytes (length row) ≡ 0)
    (head_is : head_of bytes ≡ h)
    (row_of_is : row_of bytes ≡ row)
    (bytes_are : bytes_of h row ≡ bytes)
  where
    known : Readable bytes (length row)
    known = readable bytes (length row) none

    count_is : row_length h ≡ length row
    count_is = ap row_length (sym head_is) ∙ sym (row_is bytes) ∙ ap length row_of_is

    length_is : byte_length h ≡ length bytes
    length_is = ap byte_length (sym head_is) ∙ sym known.length_is

    ok : Accepted h row
    ok = ap₂ plan_refusal (sym head_is) (sym row_of_is) ∙ known.accepted

    read_none : (lent : List ℕ) → length row ≤ length lent → read_refusal bytes (length lent) ≡ 0
    read_none lent enough =
        accepts bytes (length lent)
        (record {
          whole_head = known.whole_head;
          head_ok = known.head_ok;
          length_is = known.length_is;
          fill_zero = known.fill_zero;
          accepted = known.accepted;
          row_fits = omega (arith, known.row_fits);
        })

    write_none : (lent : List ℕ) → length bytes ≤ length lent → write_refusal h row (length lent) ≡ 0
    write_none lent enough = write_room h row (length lent) ok ∙ rw (le-ltb (length lent) (byte_length h) (omega (arith, length_is)))

    stand_for : StandFor bytes h row
    stand_for =
        record {
          read = λ lent enough. head_answered _ (head_of bytes) (read_none lent enough) ∙ ap (read_as 0) head_is;
          row_read = λ lent enough.
              filled _ (row_length (head_of bytes)) (row_of bytes) lent (read_none lent enough)
              ∙ ap₂ (λ l n. l ++ drop n lent) row_of_is (ap row_length head_is ∙ count_is);
          written = λ lent enough. length_answered _ (byte_length h) (write_none lent enough) ∙ ap (written_as 0) length_is;
          bytes_written = λ lent enough.
              filled _ (byte_length h) (bytes_of h row) lent (write_none lent enough) ∙ ap₂ (λ l n. l ++ drop n lent) bytes_are length_is;
        }

-- "Document 01's report bytes become 04 02 02 14 00 00 00 08 00 00 00 10 00 00 00 20 and seven times 00"
abbrev pub example_bytes : List ℕ
example_bytes =
    0x04 ∷ 0x02 ∷ 0x02 ∷ 0x14 ∷ 0 ∷ 0 ∷ 0 ∷ 0x08 ∷ 0 ∷ 0 ∷ 0 ∷ 0x10 ∷ 0 ∷ 0 ∷ 0 ∷ 0x20 ∷ replicate 7 0

-- "n = 2, u = 1, m = 2", and the income 1
abbrev pub example_head : Head
example_head = record { months = 2; opening = 1; sizes = 2; income = 1 }

-- "all chances and weights S/2, over 0"
abbrev pub example_row : List ℕ
example_row = replicate 4 (2 ^ 29) ++ 0 ∷ []

-- "For the bytes … (n = 2, u = 1, m = 2, all chances and weights S/2, over 0)", of the reserve report
pub example_stands : StandFor example_bytes example_head example_row
unfolding S total any largest_level plan_of bits number head_bits plan_bits bit_length byte_length filled_bits bytes_of bits_of head_of fields row_of fill_of first head_checks number_checks tail_survivable read_refusal flat_map
example_stands = stand_for example_bytes example_head example_row refl refl refl refl
