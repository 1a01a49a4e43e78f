-- Round trips: what is written reads back the same head and row, and bytes that are read are written back the same.
use Prim.Native.Nat.{ℕ, zero, suc, ◌+◌, ◌*◌, ◌-◌, ◌^◌, ◌<◌, ◌≤◌}
use mathlib.Core.Path.{◌≡◌, refl, sym, ap, ap₂, ◌∙◌}
use mathlib.Core.Bool.{false, true≢false}
use mathlib.Core.List.{List, [], ◌∷◌, ◌++◌, flat_map, append_assoc, append-nil}
use native.Mathlib.Nat.{le_of_eq, lt_of_le_of_lt, mod-eq_of_lt}
use native.Mathlib.Omega.{arith}
use lib.Dec.{eqb, lit<}
use lib.ListN.{length, get_or, take, drop, replicate, length-drop, take-append-drop}
use lib.Seq.{take_at, take_all, take-add, drop_at, drop-drop}
use Rattle.model.specs.declared.Head.{Head}
use Rattle.model.specs.Scale.{S}
use Rattle.model.specs.Sums.{any}
use Rattle.model.specs.Plan.{row_length}
use Rattle.model.specs.Format.{months_width, opening_width, sizes_start, sizes_width, income_start, income_width, number_width, bits, number, fields, head_bits, plan_bits, bit_length, byte_length, filled_bits, bytes_of, bits_of, head_of, row_of, fill_of}
use Rattle.model.specs.Refusal.{first, head_checks, plan_refusal, Accepted}
use Rattle.model.proofs.Facts.{Facts, facts, accepted_head}
use Rattle.plan_bits.proofs.Fields.{Bits, after_first, length_bits, number_bits, bits_field, bits_drop, flat_fields, fields_flat, length_fields}
use Rattle.plan_bits.proofs.PlanBits.{length_plan, length_filled, bits_filled, length_bits_of, bits_bits_of, bits_fill_of}
use Rattle.plan_bits.proofs.RefusalLaws.{Readable, row_inside}

-- the number that a field of its width holds
field_back : (w x : ℕ) (rest : List ℕ) → x < 2 ^ w → number (take w (bits w x ++ rest)) ≡ x
field_back w x rest fits = ap number (take_at (bits w x) rest w (length_bits w x)) ∙ number_bits w x ∙ mod-eq_of_lt fits

no_ones : (n : ℕ) → any (eqb 1) (replicate n 0) ≡ false
unfolding any
no_ones zero = refl
no_ones (suc n) = no_ones n

all_zero : (bs : List ℕ) → Bits bs → any (eqb 1) bs ≡ false → bs ≡ replicate (length bs) 0
unfolding any
all_zero [] h none = refl
all_zero (zero ∷ bs) h none = ap (λ l. 0 ∷ l) (all_zero bs (after_first h) none)
all_zero (suc zero ∷ bs) h none = absurd (true≢false none)
all_zero (suc (suc b) ∷ bs) h none = absurd (omega (arith, h.bit 0))

module _ (h : Head) (row : List ℕ) (ok : Accepted h row) where
  known : Facts h row
  known = facts h row ok

  zeros : List ℕ
  zeros = replicate (8 * byte_length h - bit_length h) 0

  -- the bits of the bytes that are written
  bits_back : bits_of (bytes_of h row) ≡ filled_bits h row
  unfolding bits_of bytes_of
  bits_back =
      let whole = length_filled h row known.row_is in
      flat_fields 8 (byte_length h) (filled_bits h row) (le_of_eq (sym whole)) (bits_filled h row)
      ∙ take_all (8 * byte_length h) (filled_bits h row) (le_of_eq whole)

  after_sizes : List ℕ
  after_sizes = bits income_width h.income ++ (flat_map (bits number_width) row ++ zeros)

  after_opening : List ℕ
  after_opening = bits sizes_width h.sizes ++ after_sizes

  after_months : List ℕ
  after_months = bits opening_width h.opening ++ after_opening

  filled_fields : filled_bits h row ≡ bits months_width h.months ++ after_months
  unfolding filled_bits plan_bits after_months after_opening after_sizes zeros
  filled_fields = simp append_assoc

  written_fields : bits_of (bytes_of h row) ≡ bits months_width h.months ++ after_months
  written_fields = bits_back ∙ filled_fields

  drop_months : drop months_width (bits_of (bytes_of h row)) ≡ after_months
  drop_months = ap (drop months_width) written_fields ∙ drop_at (bits months_width h.months) after_months months_width (length_bits months_width _)

  drop_opening : drop sizes_start (bits_of (bytes_of h row)) ≡ after_opening
  unfolding after_months
  drop_opening =
      sym (drop-drop opening_width months_width (bits_of (bytes_of h row)))
      ∙ ap (drop opening_width) drop_months
      ∙ drop_at (bits opening_width h.opening) after_opening opening_width (length_bits opening_width _)

  drop_sizes : drop income_start (bits_of (bytes_of h row)) ≡ after_sizes
  unfolding after_opening
  drop_sizes =
      sym (drop-drop sizes_width sizes_start (bits_of (bytes_of h row)))
      ∙ ap (drop sizes_width) drop_opening
      ∙ drop_at (bits sizes_width h.sizes) after_sizes sizes_width (length_bits sizes_width _)

  drop_head : drop head_bits (bits_of (bytes_of h row)) ≡ flat_map (bits number_width) row ++ zeros
  unfolding after_sizes head_bits
  drop_head =
      sym (drop-drop income_width income_start (bits_of (bytes_of h row)))
      ∙ ap (drop income_width) drop_sizes
      ∙ drop_at (bits income_width h.income) (flat_map (bits number_width) row ++ zeros) income_width (length_bits income_width _)

  -- what is written reads back the same head and row
  months_back : number (take months_width (bits_of (bytes_of h row))) ≡ h.months
  months_back = ap (λ l. number (take months_width l)) written_fields ∙ field_back months_width _ _ (omega (arith, known.head.months_fit))

  opening_back : number (take opening_width (drop months_width (bits_of (bytes_of h row)))) ≡ h.opening
  unfolding after_months
  opening_back = ap (λ l. number (take opening_width l)) drop_months ∙ field_back opening_width _ _ (omega (arith, known.head.opening_fits))

  sizes_back : number (take sizes_width (drop sizes_start (bits_of (bytes_of h row)))) ≡ h.sizes
  unfolding after_opening
  sizes_back = ap (λ l. number (take sizes_width l)) drop_opening ∙ field_back sizes_width _ _ (omega (arith, known.head.sizes_fit))

  income_back : number (take income_width (drop income_start (bits_of (bytes_of h row)))) ≡ h.income
  unfolding after_sizes
  income_back = ap (λ l. number (take income_width l)) drop_sizes ∙ field_back income_width _ _ (omega (arith, known.head.income_fits))

  pub head_back : head_of (bytes_of h row) ≡ h
  unfolding head_of
  head_back = λ i. record { months = months_back i; opening = opening_back i; sizes = sizes_back i; income = income_back i }

  pub row_back : row_of (bytes_of h row) ≡ row
  unfolding row_of head_bits S
  row_back =
      ap₂ (fields number_width) (ap row_length head_back ∙ sym known.row_is) drop_head
      ∙ fields_flat number_width row zeros (λ i. lt_of_le_of_lt (known.numbers_fit i) (lit< tt))

  pub length_back : length (bytes_of h row) ≡ byte_length h
  unfolding bytes_of
  length_back = length_fields 8 (byte_length h) (filled_bits h row)

  fill_back : fill_of (bytes_of h row) ≡ zeros
  unfolding fill_of filled_bits zeros
  fill_back =
      ap₂ drop (ap bit_length head_back) bits_back ∙ drop_at (plan_bits h row) _ (bit_length h) (length_plan h row known.row_is)

  pub readable_back : (room : ℕ) → row_length h ≤ room → Readable (bytes_of h row) room
  unfolding zeros byte_length bit_length head_bits
  readable_back room fits =
      record {
        whole_head = omega (arith, length_back);
        head_ok = ap (λ h'. first (head_checks h')) head_back ∙ accepted_head h row ok;
        length_is = length_back ∙ ap byte_length (sym head_back);
        fill_zero = ap (any (eqb 1)) fill_back ∙ no_ones (8 * byte_length h - bit_length h);
        accepted = ap₂ plan_refusal head_back row_back ∙ ok;
        row_fits = rw head_back fits;
      }

-- every byte string that reading accepts is written back the same, byte for byte
module _ (bytes : List ℕ) (room : ℕ) (are_bytes : (i : ℕ) → get_or bytes i 0 < 2 ^ 8) (known : Readable bytes room) where
  abbrev all : List ℕ
  all = bits_of bytes

  abbrev count : ℕ
  count = row_length (head_of bytes)

  inside : head_bits + number_width * count ≤ length all
  inside = rw length_bits_of (row_inside bytes room known)

  -- a field of the head
  field_of : (o w : ℕ) → o + w ≤ head_bits → bits w (number (take w (drop o all))) ≡ take w (drop o all)
  unfolding head_bits
  field_of o w early = bits_field w (drop o all) (rw length-drop (omega (arith, inside))) (bits_drop o all (bits_bits_of bytes))

  plan_bits_back : plan_bits (head_of bytes) (row_of bytes) ≡ take (bit_length (head_of bytes)) (bits_of bytes)
  unfolding plan_bits head_of row_of bit_length head_bits
  plan_bits_back =
      ap₂ ◌++◌
      (ap₂ ◌++◌
      (ap₂ ◌++◌
      (ap₂ ◌++◌ (field_of 0 months_width (omega arith)) (field_of months_width opening_width (omega arith)) ∙ sym (take-add months_width opening_width all))
      (field_of sizes_start sizes_width (omega arith))
      ∙ sym (take-add sizes_start sizes_width all))
      (field_of income_start income_width (omega arith))
      ∙ sym (take-add income_start income_width all))
      (flat_fields number_width count (drop head_bits all) (rw length-drop (omega (arith, inside))) (bits_drop head_bits all (bits_bits_of bytes)))
      ∙ sym (take-add head_bits (number_width * count) all)

  fill_length : length (fill_of bytes) ≡ 8 * byte_length (head_of bytes) - bit_length (head_of bytes)
  unfolding fill_of
  fill_length = rw (length-drop, length_bits_of, known.length_is)

  fill_is : fill_of bytes ≡ replicate (8 * byte_length (head_of bytes) - bit_length (head_of bytes)) 0
  fill_is = all_zero (fill_of bytes) (bits_fill_of bytes) known.fill_zero ∙ ap (λ n. replicate n 0) fill_length

  filled_back : filled_bits (head_of bytes) (row_of bytes) ≡ bits_of bytes
  unfolding filled_bits fill_of
  filled_back = ap₂ ◌++◌ plan_bits_back (sym fill_is) ∙ take-append-drop (bit_length (head_of bytes)) all

  pub bytes_back : bytes_of (head_of bytes) (row_of bytes) ≡ bytes
  unfolding bytes_of bits_of
  bytes_back =
      ap₂ (fields 8) (sym known.length_is) filled_back
      ∙ ap (fields 8 (length bytes)) (sym (append-nil (flat_map (bits 8) bytes)))
      ∙ fields_flat 8 bytes [] are_bytes
