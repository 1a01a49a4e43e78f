-- The plans of a mixture's bytes, read one after another into one row.
use Prim.Native.Nat.{ℕ, zero, suc, ◌+◌, ◌*◌, ◌-◌, ◌<◌, ◌≤◌}
use mathlib.Core.Path.{◌≡◌, refl, sym, ap, ◌∙◌}
use mathlib.Core.Bool.{Bool}
use mathlib.Core.List.{List, [], ◌∷◌, ◌++◌, append_assoc, append-nil, map}
use native.Mathlib.Numerals.{add-one}
use native.Mathlib.Omega.{arith}
use native.Mathlib.Nat.{add_assoc, add-zero, mul-le-mul_right}
use borrow.Rule.Slice.PartMut.{mid_of, put_mid, same_len_mid, put_same}
use lib.Dec.{eqb}
use lib.ListN.{length, take, drop, set, length-set, length-append, length-drop, take-append-drop}
use lib.Seq.{take_all, take-suc-set, drop-drop, drop-append-le, length-take-le}
use borrow.Author.Tests.{ne_eqb}
use Rattle.model.specs.declared.Head.{Head}
use Rattle.model.specs.Limits.{max_plans, row_room, rows_room}
use Rattle.model.specs.Plan.{row_length}
use Rattle.model.specs.Format.{head_of, row_of, byte_length}
use Rattle.model.specs.Refusal.{first, read_refusal}
use Rattle.model.proofs.MemoryLaws.{filled}
use Rattle.codec.specs.Answers.{row_after}
use Rattle.plan_bits.proofs.RefusalLaws.{readable, row_is}
use Rattle.mixture_plans.proofs.RowLaws.{none_after}
use Rattle.mixture_bytes.specs.Format.{part_of, plan_parts}
use Rattle.mixture_bytes.specs.Refusal.{part_check, parts_refusal}
use Rattle.mixture_bytes.specs.Reading.{rows_after, rows_long, PartRead, PlansRead}
use Rattle.mixture_bytes.proofs.PartLaws.{row_kept, parts_next}

-- the bytes from a place on, as they are lent
module _ (bytes : List ℕ) (start : ℕ) where
  lent_bytes : take (length bytes - start) (drop start bytes) ≡ drop start bytes
  lent_bytes = take_all (length bytes - start) (drop start bytes) (rw length-drop (omega arith))

  pub lent_number :
      (last : Bool) (n : ℕ) → n ≡ read_refusal (part_of last (take (length bytes - start) (drop start bytes))) row_room → n ≡ read_refusal (part_of last (drop start bytes)) row_room
  lent_number last n e = rw lent_bytes at e

  pub lent_read : (last : Bool) (head : Head) (n : ℕ) → PartRead last (take (length bytes - start) (drop start bytes)) head n → PartRead last (drop start bytes) head n
  lent_read last head n h = rw lent_bytes at h

  pub lent_row :
      (last : Bool) (row back : List ℕ) → back ≡ row_after (part_of last (take (length bytes - start) (drop start bytes))) row → back ≡ row_after (part_of last (drop start bytes)) row
  lent_row last row back e = rw lent_bytes at e

-- The plans read so far and those that are left are the whole: their numbers, what lies in the row, the heads and how much of the row is used.
pub record Reading (bytes : List ℕ) (count : ℕ) (row₀ row : List ℕ) (heads : List Head) (i start used : ℕ) : Type 0 where
  pub turns : i ≤ count
  pub inside : start ≤ length bytes
  pub few : used ≤ i * row_room
  pub long : length row ≡ length row₀
  pub heads_long : length heads ≡ max_plans
  pub number : parts_refusal (plan_parts (count - i) (drop start bytes)) ≡ parts_refusal (plan_parts count bytes)
  pub memory : rows_after (plan_parts (count - i) (drop start bytes)) used row ≡ rows_after (plan_parts count bytes) 0 row₀
  pub heads_are : take i heads ++ map head_of (plan_parts (count - i) (drop start bytes)) ≡ map head_of (plan_parts count bytes)
  pub used_is : used + rows_long (plan_parts (count - i) (drop start bytes)) ≡ rows_long (plan_parts count bytes)

-- there are as many parts as plans
pub parts_many : (n : ℕ) (bs : List ℕ) → length (plan_parts n bs) ≡ n
unfolding plan_parts
parts_many zero bs = refl
parts_many (suc n) bs = ap suc (parts_many n _)

module _ (bytes : List ℕ) (count : ℕ) (row₀ : List ℕ) where
  module _
      (few : count ≤ max_plans) (room : length row₀ ≡ rows_room) (row : List ℕ) (heads : List Head) (i start used : ℕ)
      (so_far : Reading bytes count row₀ row heads i start used)
    where
      pub reading_done : count ≤ i → (0 ≡ parts_refusal (plan_parts count bytes)) × (PlansRead (plan_parts count bytes) heads used × (row ≡ rows_after (plan_parts count bytes) 0 row₀))
      unfolding plan_parts first rows_after rows_long
      reading_done all =
          let here : i ≡ count = omega (arith, so_far.turns) in
          let none : count - i ≡ 0 = omega arith in (
            rw none at so_far.number,
            (
              record {
                heads_long = so_far.heads_long;
                heads_are = ap (λ (n : ℕ). take n heads) (parts_many count bytes ∙ sym here) ∙ sym (append-nil (take i heads)) ∙ (rw none at so_far.heads_are);
                used_is = sym (add-zero used) ∙ (rw none at so_far.used_is);
              },
              rw none at so_far.memory,
            ),
          )

      module _ (l : i < count) where
        abbrev rest : List ℕ
        rest = drop start bytes

        abbrev part : List ℕ
        part = part_of (eqb (i + 1) count) rest

        abbrev later : List (List ℕ)
        later = plan_parts (count - (i + 1)) (drop (byte_length (head_of rest)) rest)

        -- room for every plan's row
        reading_room : used + row_room ≤ length row
        reading_room = omega (arith, so_far.few, so_far.long, room, mul-le-mul_right row_room l, mul-le-mul_right row_room few)

        from : plan_parts (count - i) rest ≡ part ∷ later
        unfolding plan_parts
        from =
            let more : count - i ≡ suc (count - (i + 1)) = omega arith in
            rw (more, none_after i count l)

        -- the part of the row that is lent
        abbrev lent : List ℕ
        lent = mid_of used (used + row_room - used) row

        reading_lent : length lent ≡ row_room
        reading_lent =
            let k : used + row_room - used ≡ row_room = omega arith in
            rw k (length-take-le row_room (drop used row) (simp length-drop (omega (arith, reading_room))))

        module _ (n : ℕ) (is : n ≡ read_refusal part row_room) (back : List ℕ) (left : back ≡ row_after part lent) where
          -- the plan is refused, and the row is as it was …
          pub reading_refused :
              (n ≡ 0 → ⊥) → (n ≡ parts_refusal (plan_parts count bytes)) × (put_mid used (used + row_room - used) row back ≡ rows_after (plan_parts count bytes) 0 row₀)
          unfolding rows_after
          reading_refused ne = (
            sym (sym so_far.number ∙ ap parts_refusal from ∙ parts_next part (map part_check later) ∙ (rw (← is, ne_eqb n 0 ne))),
            ap (put_mid used (used + row_room - used) row) (left ∙ row_kept (eqb (i + 1) count) rest lent n reading_lent is ne)
                ∙ put_same used (used + row_room - used) row
                ∙ sym (sym so_far.memory ∙ ap (λ ps. rows_after ps used row) from ∙ (rw (← is, ne_eqb n 0 ne))),
          )

          -- … or it is read, and those after it are left
          module _ (none : n ≡ 0) (head : Head) (count' : ℕ) (read : PartRead (eqb (i + 1) count) rest head count') where
            unrefused : read_refusal part row_room ≡ 0
            unrefused = sym is ∙ none

            head_is : head ≡ head_of part
            head_is = read.head_is

            fits : row_length (head_of part) ≤ row_room
            fits = (readable part row_room unrefused).row_fits

            -- what is put back in the row
            put_back : put_mid used (used + row_room - used) row back ≡ take used row ++ row_of part ++ drop (used + row_length (head_of part)) row
            put_back =
                let L : ℕ = row_length (head_of part) in
                let now : back ≡ row_of part ++ drop L lent = left ∙ filled (read_refusal part (length lent)) L (row_of part) lent (ap (read_refusal part) reading_lent ∙ unrefused) in
                let after : drop L lent ++ drop (used + row_room - used) (drop used row) ≡ drop (used + L) row =
                sym (drop-append-le L lent (drop (used + row_room - used) (drop used row)) (rw reading_lent fits))
                ∙ ap (drop L) (take-append-drop (used + row_room - used) (drop used row))
                ∙ drop-drop L used row in
                ap (put_mid used (used + row_room - used) row) now
                ∙ ap (λ (xs : List ℕ). take used row ++ xs) (append_assoc (row_of part) (drop L lent) (drop (used + row_room - used) (drop used row)) ∙ ap (λ (xs : List ℕ). row_of part ++ xs) after)
                ∙ sym (append_assoc (take used row) (row_of part) (drop (used + L) row))

            long_back : length back ≡ length lent
            long_back =
                ap length (left ∙ filled (read_refusal part (length lent)) (row_length (head_of part)) (row_of part) lent (ap (read_refusal part) reading_lent ∙ unrefused))
                ∙ length-append (row_of part) _
                ∙ (rw (row_is part, length-drop) (omega (arith, fits, reading_lent)))

            pub reading_more :
                (L : ℕ) → L ≡ row_length head →
                Reading bytes count row₀ (put_mid used (used + row_room - used) row back) (set heads i head) (i + 1) (start + count') (used + L)
            unfolding rows_after rows_long
            reading_more L eL =
                let same : L ≡ row_length (head_of part) = eL ∙ ap row_length head_is in
                let on : drop (start + count') bytes ≡ drop (byte_length (head_of rest)) rest = ap (λ (k : ℕ). drop (start + k) bytes) read.count_is ∙ sym (drop-drop (byte_length (head_of rest)) start bytes) in
                let left_now : plan_parts (count - (i + 1)) (drop (start + count') bytes) ≡ later = ap (plan_parts (count - (i + 1))) on in
                let first_ones : take (i + 1) (set heads i head) ≡ take i heads ++ (head ∷ []) = rw add-one (take-suc-set heads i head (omega (arith, so_far.heads_long))) in
                record {
                  turns = omega arith;
                  inside = omega (arith, read.within, length-drop start bytes, so_far.inside);
                  few = omega (arith, so_far.few, fits, same);
                  long = same_len_mid used (used + row_room - used) row back long_back ∙ so_far.long;
                  heads_long = length-set heads i head ∙ so_far.heads_long;
                  number = ap parts_refusal left_now ∙ sym (sym so_far.number ∙ ap parts_refusal from ∙ parts_next part (map part_check later) ∙ (rw unrefused));
                  memory =
                      rw (left_now, put_back, same)
                      (sym (sym so_far.memory ∙ ap (λ ps. rows_after ps used row) from ∙ (rw unrefused)));
                  heads_are =
                      ap (λ (hs : List Head). hs ++ map head_of (plan_parts (count - (i + 1)) (drop (start + count') bytes))) first_ones
                      ∙ append_assoc (take i heads) (head ∷ []) _
                      ∙ ap (λ (ps : List (List ℕ)). take i heads ++ (head ∷ map head_of ps)) left_now
                      ∙ ap (λ (h : Head). take i heads ++ (h ∷ map head_of later)) head_is
                      ∙ sym (ap (λ (ps : List (List ℕ)). take i heads ++ map head_of ps) from)
                      ∙ so_far.heads_are;
                  used_is =
                      rw (left_now, same) (add_assoc used (row_length (head_of part)) (rows_long later) ∙ sym (ap (λ ps. used + rows_long ps) from) ∙ so_far.used_is);
                }
