-- An input longer than the longest plan is refused as its head is, or else with 5, and so is any part of it that is still too long: a program
-- need not read on.
use Prim.Native.Nat.{ℕ, zero, suc, ◌+◌, ◌*◌, ◌<◌, ◌≤◌}
use mathlib.Core.Path.{◌≡◌, refl, sym, ap, ◌∙◌}
use mathlib.Core.Bool.{Bool, true, false}
use mathlib.Core.List.{List, [], ◌∷◌, ◌++◌, append_assoc, flat_map}
use native.Mathlib.Omega.{arith}
use borrow.Author.Tests.{ltb-true, ltb-false}
use lib.Dec.{ltb}
use lib.ListN.{length, take, drop, length-take, length-drop, take-append-drop}
use lib.Seq.{take_all, length-take-le, take-append-le, drop-append-le}
use Rattle.model.specs.Format.{months_width, opening_width, sizes_start, sizes_width, income_start, income_width, head_bits, head_bytes, bits, number, bits_of, head_of}
use Rattle.model.specs.Refusal.{first, head_checks, read_refusal}
use Rattle.model.specs.Figures.{longest_plan}
use Rattle.model.proofs.Rooms.{byte_length_fits, longest_between, figures}
use Rattle.codec.specs.Input.{input_room}
use Rattle.plan_bits.proofs.PlanBits.{length_bits_of}
use Rattle.plan_bits.proofs.RefusalLaws.{read_head, read_length}

-- the refusal of a head, or 5
or_length : ℕ → ℕ
or_length zero = 5
or_length (suc n) = suc n

long_refusal : (bytes : List ℕ) (room : ℕ) → longest_plan < length bytes → read_refusal bytes room ≡ or_length (first (head_checks (head_of bytes)))
unfolding or_length
long_refusal bytes room long = go (first (head_checks (head_of bytes))) refl
  where
    go : (n : ℕ) → first (head_checks (head_of bytes)) ≡ n → read_refusal bytes room ≡ or_length n
    go zero ok = read_length bytes room (omega (arith, longest_between)) ok (λ l. omega (arith, byte_length_fits (head_of bytes) ok))
    go (suc n) refused = read_head bytes room (omega (arith, longest_between)) (λ z. omega (arith, z, refused)) ∙ refused

not_none : (n : ℕ) → or_length n ≡ 0 → ⊥
unfolding or_length
not_none zero e = omega (arith, e)
not_none (suc n) e = omega (arith, e)

-- what lies within the first of two lists has no part of the second
within_first : (o w : ℕ) (xs ys : List ℕ) → o + w ≤ length xs → take w (drop o (xs ++ ys)) ≡ take w (drop o xs)
within_first o w xs ys l = rw (drop-append-le o xs ys (omega arith)) (take-append-le w (drop o xs) ys (rw length-drop (omega arith)))

bits_both : (xs ys : List ℕ) → bits_of (xs ++ ys) ≡ bits_of xs ++ bits_of ys
unfolding bits_of flat_map
bits_both [] ys = refl
bits_both (x ∷ xs) ys = ap (λ (rest : List ℕ). bits 8 x ++ rest) (bits_both xs ys) ∙ sym (append_assoc (bits 8 x) (bits_of xs) (bits_of ys))

-- so the head is that of its own bytes
head_first : (xs ys : List ℕ) → head_bytes ≤ length xs → head_of (xs ++ ys) ≡ head_of xs
unfolding head_of head_bits
head_first xs ys whole =
    let long : length (bits_of xs) ≡ 8 * length xs = length_bits_of xs in
    rw (bits_both xs ys)
    (λ i.
    record {
      months = number (within_first 0 months_width (bits_of xs) (bits_of ys) (omega (arith, long)) i);
      opening = number (within_first months_width opening_width (bits_of xs) (bits_of ys) (omega (arith, long)) i);
      sizes = number (within_first sizes_start sizes_width (bits_of xs) (bits_of ys) (omega (arith, long)) i);
      income = number (within_first income_start income_width (bits_of xs) (bits_of ys) (omega (arith, long)) i);
    })

pub same_head : (bytes : List ℕ) (most : ℕ) → head_bytes ≤ length bytes → head_bytes ≤ most → head_of (take most bytes) ≡ head_of bytes
same_head bytes most h m =
    sym (head_first (take most bytes) (drop most bytes) (rw length-take (omega arith))) ∙ ap head_of (take-append-drop most bytes)

-- What is printed of bytes, and of a refused plan by its number alone, is for a longer input what it is for the first part.
pub first_part :
    (printed : List ℕ → List ℕ) (refused : ℕ → List ℕ) (room : ℕ)
    → ((bytes : List ℕ) → (read_refusal bytes room ≡ 0 → ⊥) → printed bytes ≡ refused (read_refusal bytes room))
    → (bytes : List ℕ) (most : ℕ) → longest_plan < most → printed (take most bytes) ≡ printed bytes
first_part printed refused room by_number bytes most enough = go (ltb most (length bytes)) refl
  where
    go : (longer : Bool) → ltb most (length bytes) ≡ longer → printed (take most bytes) ≡ printed bytes
    go false e = ap printed (take_all most bytes (ltb-false most (length bytes) e))
    go true e =
        let longer = ltb-true most (length bytes) e in
        let part = long_refusal (take most bytes) room (omega (arith, length-take-le most bytes (omega arith))) in
        let all = long_refusal bytes room (omega arith) in
        let same : read_refusal (take most bytes) room ≡ read_refusal bytes room =
        part ∙ ap (λ h. or_length (first (head_checks h))) (same_head bytes most (omega (arith, longest_between)) (omega (arith, longest_between))) ∙ sym all in
        by_number _ (λ z. not_none _ (sym part ∙ z))
        ∙ ap refused same
        ∙ sym (by_number _ (λ z. not_none _ (sym all ∙ z)))

-- A program reads a part of its input, and what is printed of that part is what is printed of all.
pub reads_enough :
    (printed : List ℕ → List ℕ) (refused : ℕ → List ℕ) (room : ℕ)
    → ((bytes : List ℕ) → (read_refusal bytes room ≡ 0 → ⊥) → printed bytes ≡ refused (read_refusal bytes room))
    → (bytes : List ℕ) → printed (take input_room bytes) ≡ printed bytes
reads_enough printed refused room by_number bytes = first_part printed refused room by_number bytes input_room (omega (arith, figures.plan_bytes))
