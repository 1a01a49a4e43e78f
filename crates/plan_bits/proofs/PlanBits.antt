-- The bits of a plan: how many there are, and which stands at a position.
use Prim.Native.Nat.{ℕ, zero, suc, ◌*◌, ◌-◌, ◌/◌, ◌%◌, ◌^◌, ◌<◌, ◌≤◌}
use mathlib.Core.Path.{◌≡◌, refl, ◌∙◌}
use mathlib.Core.List.{List, [], ◌∷◌, ◌++◌, flat_map, append_assoc}
use native.Mathlib.Nat.{zero-div}
use native.Mathlib.Omega.{arith}
use lib.Dec.{lit<}
use lib.ListN.{length, get_or, replicate, get_or-eq_default, length-append, length-replicate}
use Rattle.model.specs.declared.Head.{Head}
use Rattle.model.specs.Plan.{row_length}
use Rattle.model.specs.Format.{months_width, opening_width, sizes_width, income_width, number_width, bits, head_bits, plan_bits, bits_of, bit_length, byte_length, head_of, fill_of, filled_bits}
use Rattle.plan_bits.proofs.Fields.{Bits, bits_bits, bits_flat, bits_append, bits_drop, length_bits, length_flat, field_digit, after_field, flat_digit}

-- the fields one after the other
pub plan_fields :
    (h : Head) (row : List ℕ)
    → plan_bits h row
    ≡ bits months_width h.months
    ++ (bits opening_width h.opening ++ (bits sizes_width h.sizes ++ (bits income_width h.income ++ flat_map (bits number_width) row)))
unfolding plan_bits
plan_fields h row = simp append_assoc

module _ (h : Head) (row : List ℕ) (row_is : length row ≡ row_length h) where
  pub length_plan : length (plan_bits h row) ≡ bit_length h
  unfolding plan_bits bit_length head_bits
  length_plan = simp (length-append, length_bits, length_flat) (omega arith)

  pub length_filled : length (filled_bits h row) ≡ 8 * byte_length h
  unfolding filled_bits byte_length
  length_filled = rw (length-append, length-replicate, length_plan) (omega arith)

-- the bit at a position, by the field that holds it
module _ (h : Head) (row : List ℕ) (at : ℕ) where
  pub months_bit : at < months_width → get_or (plan_bits h row) at 0 ≡ h.months / 2 ^ (months_width - 1 - at) % 2
  months_bit inside = rw (plan_fields h row) (field_digit months_width _ _ at inside)

  module _ (after_months : months_width ≤ at) where
    pub opening_bit : at - months_width < opening_width → get_or (plan_bits h row) at 0 ≡ h.opening / 2 ^ (opening_width - 1 - (at - months_width)) % 2
    opening_bit inside = rw (plan_fields h row) (after_field months_width _ _ at after_months ∙ field_digit opening_width _ _ (at - months_width) inside)

    module _ (after_opening : opening_width ≤ at - months_width) where
      pub sizes_bit : at - months_width - opening_width < sizes_width → get_or (plan_bits h row) at 0 ≡ h.sizes / 2 ^ (sizes_width - 1 - (at - months_width - opening_width)) % 2
      sizes_bit inside =
          rw (plan_fields h row)
          (after_field months_width _ _ at after_months ∙ after_field opening_width _ _ (at - months_width) after_opening ∙ field_digit sizes_width _ _ (at - months_width - opening_width) inside)

      module _ (after_sizes : sizes_width ≤ at - months_width - opening_width) where
        abbrev past_sizes : ℕ
        past_sizes = at - months_width - opening_width - sizes_width

        sizes_passed : get_or (plan_bits h row) at 0 ≡ get_or (bits income_width h.income ++ flat_map (bits number_width) row) past_sizes 0
        sizes_passed =
            rw (plan_fields h row)
            (after_field months_width _ _ at after_months
            ∙ after_field opening_width _ _ (at - months_width) after_opening
            ∙ after_field sizes_width _ _ (at - months_width - opening_width) after_sizes)

        pub income_bit : past_sizes < income_width → get_or (plan_bits h row) at 0 ≡ h.income / 2 ^ (income_width - 1 - past_sizes) % 2
        income_bit inside = sizes_passed ∙ field_digit income_width _ _ past_sizes inside

        pub number_bit :
            income_width ≤ past_sizes
            → get_or (plan_bits h row) at 0
            ≡ get_or row ((past_sizes - income_width) / number_width) 0 / 2 ^ (number_width - 1 - (past_sizes - income_width) % number_width) % 2
        number_bit after_head =
            sizes_passed
            ∙ after_field income_width _ _ past_sizes after_head
            ∙ flat_digit number_width row (past_sizes - income_width) (lit< tt)

        pub no_bit : income_width ≤ past_sizes → length row ≤ (past_sizes - income_width) / number_width → get_or (plan_bits h row) at 0 ≡ 0
        no_bit after_head past =
            number_bit after_head ∙ rw (get_or-eq_default row 0 past, zero-div (2 ^ (number_width - 1 - (past_sizes - income_width) % number_width)))

-- the bits of bytes
pub length_bits_of : (bytes : List ℕ) → length (bits_of bytes) ≡ 8 * length bytes
unfolding bits_of
length_bits_of bytes = length_flat 8 bytes

pub bits_bits_of : (bytes : List ℕ) → Bits (bits_of bytes)
unfolding bits_of
bits_bits_of bytes = bits_flat 8 bytes (lit< tt)

pub bits_fill_of : (bytes : List ℕ) → Bits (fill_of bytes)
unfolding fill_of
bits_fill_of bytes = bits_drop (bit_length (head_of bytes)) (bits_of bytes) (bits_bits_of bytes)

-- past the end of a list stand zeros already
pub getD_zeros : (xs : List ℕ) (n i : ℕ) → get_or (xs ++ replicate n 0) i 0 ≡ get_or xs i 0
getD_zeros [] n i = zeros n i
  where
    zeros : (n i : ℕ) → get_or {A = ℕ} (replicate n 0) i 0 ≡ 0
    zeros zero i = refl
    zeros (suc n) zero = refl
    zeros (suc n) (suc i) = zeros n i
getD_zeros (x ∷ xs) n zero = refl
getD_zeros (x ∷ xs) n (suc i) = getD_zeros xs n i

pub bits_plan : (h : Head) (row : List ℕ) → Bits (plan_bits h row)
unfolding plan_bits
bits_plan h row =
    bits_append
    (bits_append (bits_append (bits_append (bits_bits months_width _) (bits_bits opening_width _)) (bits_bits sizes_width _)) (bits_bits income_width _))
    (bits_flat number_width row (lit< tt))

-- the fill is of zeros
module _ (h : Head) (row : List ℕ) where
  pub filled_at : (i : ℕ) → get_or (filled_bits h row) i 0 ≡ get_or (plan_bits h row) i 0
  unfolding filled_bits
  filled_at i = getD_zeros (plan_bits h row) (8 * byte_length h - bit_length h) i

  pub bits_filled : Bits (filled_bits h row)
  bits_filled = record { bit = λ i. rw (filled_at i) ((bits_plan h row).bit i) }
