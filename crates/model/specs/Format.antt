-- "Plan row and plan bytes": the bits of a plan.
use Rattle.std.specs.Prelude.{ℕ, zero, suc, ◌+◌, ◌*◌, ◌/◌, ◌%◌, ◌^◌, ◌-◌, length, take, drop, replicate}
use mathlib.Core.List.{List, [], ◌∷◌, ◌++◌, flat_map}
use Rattle.model.specs.declared.Head.{Head}
use Rattle.model.specs.Plan.{row_length}

-- the bits of a number in a field of the given width, "most significant bit first"
unfoldable pub bits : ℕ → ℕ → List ℕ
bits zero x = []
bits (suc width) x = x / 2 ^ width % 2 ∷ bits width x

-- the number that bits stand for
unfoldable pub number : List ℕ → ℕ
number [] = 0
number (b ∷ bs) = b * 2 ^ length bs + number bs

-- "n in 7 bits, u in 8, m in 9, then the row at 31 bits a number", and by document 02 "the income c, 4 bits after the sizes": the widths, which stand here
-- alone for the definitions
abbrev pub months_width : ℕ
months_width = 7

abbrev pub opening_width : ℕ
opening_width = 8

-- where the sizes begin
abbrev pub sizes_start : ℕ
sizes_start = months_width + opening_width

abbrev pub sizes_width : ℕ
sizes_width = 9

-- where the income begins
abbrev pub income_start : ℕ
income_start = sizes_start + sizes_width

abbrev pub income_width : ℕ
income_width = 4

abbrev pub number_width : ℕ
number_width = 31

-- the bits of the head, and the bytes that they lie in
unfoldable pub head_bits : ℕ
head_bits = income_start + income_width

abbrev pub head_bytes : ℕ
head_bytes = (head_bits + 7) / 8

unfoldable pub plan_bits : Head → List ℕ → List ℕ
plan_bits h row =
    bits months_width h.months
    ++ bits opening_width h.opening
    ++ bits sizes_width h.sizes
    ++ bits income_width h.income
    ++ flat_map (bits number_width) row

-- "The length is exact": of the bits, and in bytes with the fill of the last one
unfoldable pub bit_length : Head → ℕ
bit_length h = head_bits + number_width * row_length h

unfoldable pub byte_length : Head → ℕ
byte_length h = (bit_length h + 7) / 8

-- the bits of bytes
unfoldable pub bits_of : List ℕ → List ℕ
bits_of bytes = flat_map (bits 8) bytes

-- the head that bytes begin with
unfoldable pub head_of : List ℕ → Head
head_of bytes =
    record {
      months = number (take months_width (bits_of bytes));
      opening = number (take opening_width (drop months_width (bits_of bytes)));
      sizes = number (take sizes_width (drop sizes_start (bits_of bytes)));
      income = number (take income_width (drop income_start (bits_of bytes)));
    }

-- the first numbers that stand in fields of the given width
unfoldable pub fields : ℕ → ℕ → List ℕ → List ℕ
fields width zero bs = []
fields width (suc n) bs = number (take width bs) ∷ fields width n (drop width bs)

-- the row that follows the head
unfoldable pub row_of : List ℕ → List ℕ
row_of bytes = fields number_width (row_length (head_of bytes)) (drop head_bits (bits_of bytes))

-- the bits that follow the row
unfoldable pub fill_of : List ℕ → List ℕ
fill_of bytes = drop (bit_length (head_of bytes)) (bits_of bytes)

-- a plan's bits, "then zero bits to the end of the byte"
unfoldable pub filled_bits : Head → List ℕ → List ℕ
filled_bits h row = plan_bits h row ++ replicate (8 * byte_length h - bit_length h) 0

-- the bytes of a plan
unfoldable pub bytes_of : Head → List ℕ → List ℕ
bytes_of h row = fields 8 (byte_length h) (filled_bits h row)
