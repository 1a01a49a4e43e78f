-- An input longer than the longest mixture is refused by its count or by one of its plans, and so is any part of it that is still too long, with the same
-- number: a program need not read on.
use Prim.Native.Nat.{ℕ, zero, suc, ◌+◌, ◌*◌, ◌-◌, ◌<◌, ◌≤◌}
use mathlib.Core.Path.{◌≡◌, refl, sym, ap, ap₂, ◌∙◌}
use mathlib.Core.Bool.{Bool, true, false, cond}
use mathlib.Core.List.{List, [], ◌∷◌}
use native.Mathlib.Nat.{suc-mul, mul-le-mul}
use native.Mathlib.Omega.{arith}
use lib.Dec.{eqb, ltb}
use lib.ListN.{length, take, drop, get_or, length-drop}
use lib.Seq.{take_all, take-take, take-add, drop_at, length-take-le, get_or-take}
use borrow.Author.Tests.{ltb-true, ltb-false, eqb-false, ne_eqb, le-ltb}
use Rattle.model.specs.declared.Head.{Head}
use Rattle.model.specs.Limits.{max_plans, row_room}
use Rattle.model.specs.Format.{head_bytes, head_of, byte_length}
use Rattle.model.specs.Refusal.{first, head_checks, HeadAccepted, read_refusal}
use Rattle.model.specs.Figures.{longest_plan}
use Rattle.model.proofs.Facts.{neither}
use Rattle.model.proofs.Rooms.{byte_length_fits, longest_between, figures}
use Rattle.plan_bits.proofs.RefusalLaws.{readable}
use Rattle.codec.proofs.LongInput.{same_head, first_part as LongInput·first-part}
use Rattle.mixture_plans.specs.Refusal.{count_outside}
use Rattle.mixture_bytes.specs.Format.{count_in, plans_start, part_of, plan_parts, parts_in}
use Rattle.mixture_bytes.specs.Input.{longest_mixture, mixture_input_room}
use Rattle.mixture_bytes.specs.Refusal.{early_refusal, parts_refusal, count_refusal, bytes_refusal}
use Rattle.mixture_bytes.proofs.PartLaws.{early_is, parts_next, parts_first, count_then, by_outside, by_weights}

-- what is left of the first part of a list
drop_of_take : (k most : ℕ) (xs : List ℕ) → k ≤ most → k ≤ length xs → drop k (take most xs) ≡ take (most - k) (drop k xs)
drop_of_take k most xs l long =
    let both : k + (most - k) ≡ most = omega arith in
    ap (λ (n : ℕ). drop k (take n xs)) (sym both)
    ∙ ap (drop k) (take-add k (most - k) xs)
    ∙ drop_at (take k xs) (take (most - k) (drop k xs)) k (length-take-le k xs long)

-- bytes that are longer than every plan are refused, …
long_refused : (bytes : List ℕ) → longest_plan < length bytes → read_refusal bytes row_room ≡ 0 → ⊥
long_refused bytes long none =
    let known = readable bytes row_room none in
    omega (arith, known.length_is, byte_length_fits (head_of bytes) known.head_ok)

-- … as their first part is
long_alike : (bytes : List ℕ) (most : ℕ) → longest_plan < most → read_refusal (take most bytes) row_room ≡ read_refusal bytes row_room
long_alike bytes most enough =
    ap (λ (numbers : List ℕ). get_or numbers 0 0)
    (LongInput·first-part (λ part. read_refusal part row_room ∷ []) (λ n. n ∷ []) row_room (λ part refused. refl) bytes most enough)

-- the last plan is all that is left
last_part : (bytes : List ℕ) → parts_refusal (plan_parts 1 bytes) ≡ read_refusal bytes row_room
unfolding plan_parts part_of first
last_part bytes = parts_next bytes [] ∙ go (read_refusal bytes row_room)
  where
    go : (n : ℕ) → cond (eqb n 0) 0 n ≡ n
    go zero = refl
    go (suc n) = rw (ne_eqb (suc n) 0 (λ z. omega (arith, z)))

-- any other is as long as its head asks
next_part :
    (n : ℕ) (bytes : List ℕ) (h : Head) → head_of bytes ≡ h →
    parts_refusal (plan_parts (suc (suc n)) bytes)
    ≡ cond (eqb (read_refusal (take (byte_length h) bytes) row_room) 0) (parts_refusal (plan_parts (suc n) (drop (byte_length h) bytes)))
    (read_refusal (take (byte_length h) bytes) row_room)
unfolding plan_parts part_of
next_part n bytes h e = rw (← e, ne_eqb (suc n) 0 (λ z. omega (arith, z))) (parts_next _ _)

-- a first plan whose head is refused gives the head's number
head_refused :
    (n : ℕ) (bytes : List ℕ) → head_bytes ≤ length bytes → (HeadAccepted (head_of bytes) → ⊥) →
    parts_refusal (plan_parts (suc n) bytes) ≡ first (head_checks (head_of bytes))
unfolding plan_parts early_refusal
head_refused n bytes whole refused =
    let early : first (head_checks (head_of bytes)) ≡ early_refusal bytes = rw (le-ltb _ _ whole) in
    let number = early_is (eqb n 0) bytes (first (head_checks (head_of bytes))) early refused in
    parts_next (part_of (eqb n 0) bytes) _ ∙ rw (← number, ne_eqb _ 0 refused)

-- Bytes that are longer than so many plans are refused, and their first part is with the same number.
record Alike (n : ℕ) (bytes : List ℕ) (most : ℕ) : Type 0 where
  same : parts_refusal (plan_parts n (take most bytes)) ≡ parts_refusal (plan_parts n bytes)
  refused : parts_refusal (plan_parts n bytes) ≡ 0 → ⊥

-- where some later plan is refused, one is
either : (number rest : ℕ) → (rest ≡ 0 → ⊥) → cond (eqb number 0) rest number ≡ 0 → ⊥
either zero rest later z = later z
either (suc number) rest later z = omega (arith, rw (ne_eqb (suc number) 0 (λ y. omega (arith, y))) at z)

-- A plan that is not the last: the first part begins with the same head.
module _ (n : ℕ) (bytes : List ℕ) (most : ℕ) (room : suc n * longest_plan + longest_plan < most) (long : most ≤ length bytes) where
  abbrev h : Head
  h = head_of bytes

  same_start : head_of (take most bytes) ≡ h
  same_start = same_head bytes most (omega (arith, longest_between, room)) (omega (arith, longest_between, room))

  -- the head is refused
  by_head : (HeadAccepted h → ⊥) → Alike (suc (suc n)) bytes most
  by_head refused =
      let all = head_refused (suc n) bytes (omega (arith, longest_between, room)) refused in
      record {
        same =
            head_refused (suc n) (take most bytes) (rw (length-take-le most bytes long) (omega (arith, longest_between, room))) (rw same_start refused)
            ∙ ap (λ (start : Head). first (head_checks start)) same_start
            ∙ sym all;
        refused = λ z. refused (sym all ∙ z);
      }

  -- or it is not: the plan lies within the first part
  by_later : HeadAccepted h → Alike (suc n) (drop (byte_length h) bytes) (most - byte_length h) → Alike (suc (suc n)) bytes most
  by_later ok later =
      let k : ℕ = byte_length h in
      let fits : k ≤ longest_plan = byte_length_fits h ok in
      let left = drop_of_take k most bytes (omega (arith, room, fits)) (omega (arith, room, fits)) in
      let all = next_part n bytes h refl in
      record {
        same =
            next_part n (take most bytes) h same_start
            ∙ ap₂
            (λ (part rest : List ℕ). cond (eqb (read_refusal part row_room) 0) (parts_refusal (plan_parts (suc n) rest)) (read_refusal part row_room))
            (take-take k most bytes (omega (arith, room, fits)))
            left
            ∙ ap (λ (rest : ℕ). cond (eqb (read_refusal (take k bytes) row_room) 0) rest (read_refusal (take k bytes) row_room)) later.same
            ∙ sym all;
        refused = λ z. either (read_refusal (take k bytes) row_room) _ later.refused (sym all ∙ z);
      }

  by_parts : (HeadAccepted h → Alike (suc n) (drop (byte_length h) bytes) (most - byte_length h)) → Alike (suc (suc n)) bytes most
  by_parts later = go (first (head_checks h)) refl
    where
      go : (number : ℕ) → first (head_checks h) ≡ number → Alike (suc (suc n)) bytes most
      go zero ok = by_later ok (later ok)
      go (suc number) e = by_head (λ z. omega (arith, z, e))

-- plan by plan
parts_alike : (n : ℕ) → 0 < n → (bytes : List ℕ) (most : ℕ) → n * longest_plan < most → most ≤ length bytes → Alike n bytes most
parts_alike zero some bytes most enough long = absurd (omega (arith, some))
parts_alike (suc zero) some bytes most enough long =
    record {
      same = last_part (take most bytes) ∙ long_alike bytes most (omega (arith, enough)) ∙ sym (last_part bytes);
      refused = λ z. long_refused bytes (omega (arith, enough)) (sym (last_part bytes) ∙ z);
    }
parts_alike (suc (suc n)) some bytes most enough long =
    let room : suc n * longest_plan + longest_plan < most = omega (arith, enough, suc-mul (suc n) longest_plan) in
    by_parts n bytes most room long
    (λ ok.
    let fits = byte_length_fits (head_of bytes) ok in
    parts_alike (suc n) (omega arith) (drop (byte_length (head_of bytes)) bytes) (most - byte_length (head_of bytes)) (omega (arith, room, fits))
    (rw length-drop (omega arith)))

module _ (bytes : List ℕ) (some : length bytes ≡ 0 → ⊥) where
  -- a count that is outside gives 18
  outside_refused : count_outside (count_in bytes) ≡ true → bytes_refusal bytes ≡ 18
  outside_refused outside =
      let early = by_outside bytes some (count_in bytes) refl _ refl outside in
      count_then bytes ∙ rw (← early)

  -- with one that is not, and all weights, a plan that is refused gives its number
  part_refused :
      count_outside (count_in bytes) ≡ false → plans_start (count_in bytes) ≤ length bytes → (parts_refusal (parts_in bytes) ≡ 0 → ⊥) →
      bytes_refusal bytes ≡ parts_refusal (parts_in bytes)
  part_refused inside enough refused =
      let early : 0 ≡ count_refusal bytes = rw (le-ltb _ _ enough) at (by_weights bytes some (count_in bytes) refl _ refl inside) in
      count_then bytes ∙ rw (← early) (parts_first (parts_in bytes) _ refused)

-- what is known of a count that is not outside
count_inside : (n : ℕ) → count_outside n ≡ false → (0 < n) × (n ≤ max_plans)
unfolding count_outside
count_inside n e =
    let tests = neither (eqb n 0) (ltb max_plans n) e in
    (omega (arith, eqb-false n 0 tests.0), ltb-false max_plans n tests.1)

-- An input longer than every mixture is refused, and its first part is with the same number.
module _ (bytes : List ℕ) (most : ℕ) (enough : longest_mixture < most) (long : most ≤ length bytes) where
  abbrev count : ℕ
  count = count_in bytes

  abbrev part : List ℕ
  part = take most bytes

  part_long : length part ≡ most
  part_long = length-take-le most bytes long

  same_count : count_in part ≡ count
  same_count = get_or-take most bytes 0 0 (omega (arith, enough))

  mixture_alike : (bytes_refusal part ≡ bytes_refusal bytes) × (bytes_refusal bytes ≡ 0 → ⊥)
  mixture_alike = go (count_outside count) refl
    where
      go : (outside : Bool) → count_outside count ≡ outside → (bytes_refusal part ≡ bytes_refusal bytes) × (bytes_refusal bytes ≡ 0 → ⊥)
      go true e =
          let all = outside_refused bytes (λ z. omega (arith, z, enough, long)) e in
          (outside_refused part (λ z. omega (arith, z, part_long, enough)) (rw same_count e) ∙ sym all, λ z. omega (arith, sym all ∙ z))
      go false e =
          let few = count_inside count e in
          let plans : count * longest_plan ≤ max_plans * longest_plan = mul-le-mul few.1 (omega arith) in
          let k : ℕ = plans_start count in
          let alike : Alike count (drop k bytes) (most - k) =
          parts_alike count few.0 (drop k bytes) (most - k) (omega (arith, few, plans, enough)) (rw length-drop (omega arith)) in
          let parts : parts_refusal (parts_in part) ≡ parts_refusal (parts_in bytes) =
          ap (λ (n : ℕ). parts_refusal (plan_parts n (drop (plans_start n) part))) same_count
          ∙ ap (λ (rest : List ℕ). parts_refusal (plan_parts count rest)) (drop_of_take k most bytes (omega (arith, few, plans, enough)) (omega (arith, few, plans, enough, long)))
          ∙ alike.same in
          let all = part_refused bytes (λ z. omega (arith, z, enough, long)) e (omega (arith, few, plans, enough, long)) alike.refused in
          let cut =
          part_refused part (λ z. omega (arith, z, part_long, enough)) (rw same_count e) (rw (same_count, part_long) (omega (arith, few, plans, enough)))
          (λ z. alike.refused (sym parts ∙ z)) in
          (cut ∙ parts ∙ sym all, λ z. alike.refused (sym all ∙ z))

-- What is printed of bytes, and of a refused mixture by its number alone, is for a longer input what it is for the first part.
pub first_part :
    (printed : List ℕ → List ℕ) (refused : ℕ → List ℕ)
    → ((bytes : List ℕ) → (bytes_refusal bytes ≡ 0 → ⊥) → printed bytes ≡ refused (bytes_refusal bytes))
    → (bytes : List ℕ) (most : ℕ) → longest_mixture < most → printed (take most bytes) ≡ printed bytes
first_part printed refused by_number bytes most enough = go (ltb most (length bytes)) refl
  where
    go : (longer : Bool) → ltb most (length bytes) ≡ longer → printed (take most bytes) ≡ printed bytes
    go false e = ap printed (take_all most bytes (ltb-false most (length bytes) e))
    go true e =
        let alike = mixture_alike bytes most enough (omega (arith, ltb-true most (length bytes) e)) in
        by_number (take most bytes) (λ z. alike.1 (sym alike.0 ∙ z))
        ∙ ap refused alike.0
        ∙ sym (by_number bytes alike.1)

-- A program reads a part of its input, and what is printed of that part is what is printed of all.
pub reads_enough :
    (printed : List ℕ → List ℕ) (refused : ℕ → List ℕ)
    → ((bytes : List ℕ) → (bytes_refusal bytes ≡ 0 → ⊥) → printed bytes ≡ refused (bytes_refusal bytes))
    → (bytes : List ℕ) → printed (take mixture_input_room bytes) ≡ printed bytes
reads_enough printed refused by_number bytes = first_part printed refused by_number bytes mixture_input_room (omega (arith, figures.plan_bytes))
