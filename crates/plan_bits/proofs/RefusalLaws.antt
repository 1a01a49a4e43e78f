-- The refusals of reading and writing, test by test, and what is known of plan bytes that are accepted.
use Prim.Native.Nat.{ℕ, zero, suc, ◌+◌, ◌*◌, ◌^◌, ◌<◌, ◌≤◌}
use mathlib.Core.Path.{◌≡◌, refl, sym, ap, ◌∙◌}
use mathlib.Core.Bool.{Bool, true, false, not, cond}
use mathlib.Core.List.{List, [], ◌∷◌, ◌++◌, append_assoc}
use native.Mathlib.Omega.{arith}
use lib.Dec.{ltb, eqb}
use lib.Pow.{pow_pos}
use lib.ListN.{length}
use borrow.Author.Tests.{ltb-true, ltb-false, eqb-true, not-false, eq-eqb, ne_eqb, lt-ltb, le-ltb}
use Rattle.model.specs.declared.Head.{Head}
use Rattle.model.specs.Limits.{row_room}
use Rattle.model.specs.Sums.{any, all}
use Rattle.model.specs.Plan.{row_length}
use Rattle.model.specs.Format.{number_width, head_bytes, number, head_bits, bit_length, byte_length, head_of, row_of, fill_of}
use Rattle.model.specs.Refusal.{first, head_checks, number_checks, plan_checks, plan_refusal, HeadAccepted, Accepted, room_check, write_refusal, read_refusal}
use Rattle.model.proofs.Facts.{first_append, head_numbered, number_numbered, plan_numbered, plan_first, none_fits, none_fits_append, last_given, head_facts}
use Rattle.plan.proofs.Checks.{by_numbers}
use Rattle.plan_bits.proofs.Fields.{Bits, after_first, length_fields}
use Rattle.plan_bits.proofs.PlanBits.{bits_fill_of}

module _ (h : Head) (row : List ℕ) (room : ℕ) where
  write_checks : write_refusal h row room ≡ cond (eqb (plan_refusal h row) 0) (cond (ltb room (byte_length h)) 11 0) (plan_refusal h row)
  unfolding write_refusal first
  write_checks = plan_first h row _

  pub write_refused : (plan_refusal h row ≡ 0 → ⊥) → write_refusal h row room ≡ plan_refusal h row
  write_refused refused = write_checks ∙ rw (ne_eqb _ 0 refused)

  pub write_room : Accepted h row → write_refusal h row room ≡ cond (ltb room (byte_length h)) 11 0
  write_room ok = write_checks ∙ rw (eq-eqb _ 0 ok)

  -- what is written is a plan that fits
  pub written : write_refusal h row room ≡ 0 → Accepted h row × (byte_length h ≤ room)
  unfolding write_refusal plan_refusal
  written e =
      let parts = none_fits_append (plan_checks h row) _ (plan_numbered h row) e in
      (parts.0, ltb-false _ _ (none_fits _ _ _ parts.1).0)

-- bits of which some is 1 stand for a number above 0
some_one : (bs : List ℕ) → Bits bs → any (eqb 1) bs ≡ not (eqb (number bs) 0)
unfolding any number
some_one [] h = refl
some_one (zero ∷ bs) h =
    let rest : 0 * 2 ^ length bs + number bs ≡ number bs = omega arith in
    some_one bs (after_first h) ∙ ap (λ n. not (eqb n 0)) (sym rest)
some_one (suc zero ∷ bs) h =
    sym (ap not (ne_eqb (1 * 2 ^ length bs + number bs) 0 (λ z. omega (arith, pow_pos (length bs)))))
some_one (suc (suc b) ∷ bs) h = absurd (omega (arith, h.bit 0))

-- a fill bit is 1
pub fill_test : (bytes : List ℕ) → any (eqb 1) (fill_of bytes) ≡ not (eqb (number (fill_of bytes)) 0)
fill_test bytes = some_one (fill_of bytes) (bits_fill_of bytes)

pub row_is : (bytes : List ℕ) → length (row_of bytes) ≡ row_length (head_of bytes)
unfolding row_of
row_is bytes = length_fields number_width _ _

-- what is known of bytes that are read into a row of the given length
pub record Readable (bytes : List ℕ) (room : ℕ) : Type 0 where
  pub whole_head : head_bytes ≤ length bytes
  pub head_ok : HeadAccepted (head_of bytes)
  pub length_is : length bytes ≡ byte_length (head_of bytes)
  pub fill_zero : any (eqb 1) (fill_of bytes) ≡ false
  pub accepted : Accepted (head_of bytes) (row_of bytes)
  pub row_fits : row_length (head_of bytes) ≤ room

-- the row lies within the bytes
pub row_inside : (bytes : List ℕ) (room : ℕ) → Readable bytes room → head_bits + number_width * row_length (head_of bytes) ≤ 8 * length bytes
unfolding byte_length bit_length
row_inside bytes room known = omega (arith, known.length_is)

module _ (bytes : List ℕ) (room : ℕ) where
  abbrev h : Head
  h = head_of bytes

  abbrev row : List ℕ
  row = row_of bytes

  -- after an accepted head the row has the right length, and its numbers decide
  numbers_refusal : HeadAccepted h → plan_refusal h row ≡ first (number_checks h row)
  numbers_refusal head_ok = by_numbers h row head_ok (row_is bytes)

  pub readable : read_refusal bytes room ≡ 0 → Readable bytes room
  unfolding read_refusal
  readable e =
      let head_whole = none_fits _ _ _ e in
      let after_short = ap first (sym (append_assoc (head_checks h) _ _)) ∙ head_whole.1 in
      let head_parts = none_fits_append (head_checks h) _ (head_numbered h) after_short in
      let length_ok = none_fits _ _ _ head_parts.1 in
      let fill_ok = none_fits _ _ _ length_ok.1 in
      let number_parts = none_fits_append (number_checks h row) _ (number_numbered h row) fill_ok.1 in
      record {
        whole_head = ltb-false _ _ head_whole.0;
        head_ok = head_parts.0;
        length_is = eqb-true _ _ (not-false _ length_ok.0);
        fill_zero = fill_ok.0;
        accepted = numbers_refusal head_parts.0 ∙ number_parts.0;
        row_fits = ltb-false _ _ (none_fits _ _ _ number_parts.1).0;
      }

  pub read_short : length bytes < head_bytes → read_refusal bytes room ≡ 1
  unfolding read_refusal first
  read_short short = rw (lt-ltb _ _ short)

  module _ (head_whole : head_bytes ≤ length bytes) where
    after_short :
        read_refusal bytes room
        ≡ first
        (head_checks h
        ++ ((5, not (eqb (length bytes) (byte_length h)))
        ∷ (6, any (eqb 1) (fill_of bytes))
        ∷ (number_checks h row ++ room_check (row_length h) room ∷ [])))
    unfolding read_refusal first
    after_short = rw (le-ltb _ _ head_whole) (ap first (append_assoc (head_checks h) _ _))

    pub read_head : (HeadAccepted h → ⊥) → read_refusal bytes room ≡ first (head_checks h)
    read_head refused = after_short ∙ first_append (head_checks h) _ (head_numbered h) ∙ rw (ne_eqb _ 0 refused)

    module _ (head_ok : HeadAccepted h) where
      after_head :
          read_refusal bytes room
          ≡ cond
          (not (eqb (length bytes) (byte_length h)))
          5
          (cond (any (eqb 1) (fill_of bytes)) 6 (first (number_checks h row ++ room_check (row_length h) room ∷ [])))
      unfolding first
      after_head = after_short ∙ first_append (head_checks h) _ (head_numbered h) ∙ rw (eq-eqb _ 0 head_ok)

      pub read_length : (length bytes ≡ byte_length h → ⊥) → read_refusal bytes room ≡ 5
      read_length differs = after_head ∙ rw (ne_eqb _ _ differs)

      module _ (length_is : length bytes ≡ byte_length h) where
        pub read_padding : any (eqb 1) (fill_of bytes) ≡ true → read_refusal bytes room ≡ 6
        read_padding one = after_head ∙ rw (eq-eqb _ _ length_is, one)

        module _ (fill_zero : any (eqb 1) (fill_of bytes) ≡ false) where
          -- after the fill, the numbers and the room
          pub read_rest :
              read_refusal bytes room
              ≡ cond (eqb (plan_refusal h row) 0) (cond (ltb room (row_length h)) 11 0) (plan_refusal h row)
          unfolding first
          read_rest =
              after_head
              ∙ rw (eq-eqb _ _ length_is, fill_zero, numbers_refusal head_ok)
              (first_append (number_checks h row) _ (number_numbered h row))

  pub accepts : Readable bytes room → read_refusal bytes room ≡ 0
  accepts k =
      read_rest k.whole_head k.head_ok k.length_is k.fill_zero
      ∙ rw (eq-eqb _ 0 k.accepted, le-ltb _ _ k.row_fits)

  -- 11 is given for a short row alone, so never with room for every plan's
  pub never_11 : row_room ≤ room → read_refusal bytes room ≡ 11 → ⊥
  unfolding read_refusal head_checks number_checks all
  never_11 wide e =
      let checks : List (ℕ × Bool) =
      (1, ltb (length bytes) head_bytes) ∷ (head_checks h ++ (5, not (eqb (length bytes) (byte_length h))) ∷ (6, any (eqb 1) (fill_of bytes)) ∷ number_checks h row) in
      let short = last_given 11 (omega arith) checks (ltb room (row_length h)) refl refl e in
      let head_ok = (none_fits_append (head_checks h) _ (head_numbered h) (none_fits _ _ _ short.0).1).0 in
      let known = head_facts h head_ok in
      omega (arith, ltb-true room (row_length h) short.1, known.months_fit, known.sizes_fit)
