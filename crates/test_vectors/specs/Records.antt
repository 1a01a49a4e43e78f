-- The records of the input: nine words of eight bytes, most significant byte first.
use Rattle.std.specs.Prelude.{ℕ, ◌*◌, ◌<◌, ◌≡◌, List, get_or, take, drop, Option, Result, MatchOption, MatchResult}
use Rattle.numbers.specs.Bytes.{big_endian}
use Rattle.model.specs.CountRow.{tabulate}
use Rattle.test_vectors.specs.declared.record.Kind.{Kind}
use Rattle.test_vectors.specs.declared.record.Kind.TheVariants.{Row, Survive, Both, High, Low, Count, Write, Read, Ruin, Claims, Least, Openings, PlainSurvive, PlainBoth, PlainHigh, PlainLow}
use Rattle.test_vectors.specs.declared.record.UnknownKind.{UnknownKind}
use Rattle.test_vectors.specs.declared.record.Record.{Record}

-- the numbers of the kinds
abbrev pub kind_number : Kind → ℕ
kind_number Row = 0
kind_number Survive = 1
kind_number Both = 2
kind_number High = 3
kind_number Low = 4
kind_number Count = 5
kind_number Write = 6
kind_number Read = 7
kind_number Ruin = 8
kind_number Claims = 9
kind_number Least = 10
kind_number Openings = 11
kind_number PlainSurvive = 12
kind_number PlainBoth = 13
kind_number PlainHigh = 14
kind_number PlainLow = 15

abbrev last_kind : ℕ
last_kind = 15

-- the kind with this number, or no kind where none has it
abbrev pub KindOf : ℕ → Result Kind UnknownKind → Type 0
KindOf n r = MatchResult r (λ kind. kind_number kind ≡ n) (λ _. last_kind < n)

-- the word and the number of 32 bits that begin at a place
abbrev pub word_at : List ℕ → ℕ → ℕ
word_at bytes at = big_endian (take 8 (drop at bytes))

abbrev pub number_at : List ℕ → ℕ → ℕ
number_at bytes at = big_endian (take 4 (drop at bytes))

-- the words in their order: kind, head, number, room, fill, length; of the kind and the fill, the last byte or the last four; a target is the last four of the number
unfoldable pub record_of : Kind → List ℕ → Record
record_of kind bytes =
    record {
      kind = kind;
      head =
          record { months = word_at bytes 8; opening = word_at bytes 16; sizes = word_at bytes 24; income = word_at bytes 32 };
      number = word_at bytes 40;
      target = number_at bytes 44;
      room = word_at bytes 48;
      fill = number_at bytes 60;
      fill_byte = get_or bytes 63 0;
      length = word_at bytes 64;
    }

-- the record with the kind that the first word numbers, or none where no kind has that number
abbrev pub Decoded : List ℕ → Option Record → Type 0
Decoded bytes r =
    MatchOption r (last_kind < get_or bytes 7 0) (λ next. (kind_number next.kind ≡ get_or bytes 7 0) × (next ≡ record_of next.kind bytes))

-- the row of so many numbers that bytes hold
unfoldable pub row_in : ℕ → List ℕ → List ℕ
row_in count bytes = tabulate count (λ i. number_at bytes (4 * i))
