-- The plans' bytes end to end: the next plan and what is known of one that is read, and the checks in their order.
use Prim.Native.Nat.{ℕ, zero, suc, ◌+◌, ◌*◌, ◌<◌, ◌≤◌, min}
use mathlib.Core.Path.{◌≡◌, refl, sym, ap, ◌∙◌}
use mathlib.Core.Bool.{Bool, true, false, not, cond}
use mathlib.Core.List.{List, [], ◌∷◌, ◌++◌, append_assoc, map}
use mathlib.Core.Logic.{⊎_elim}
use native.Mathlib.Omega.{arith}
use lib.Dec.{eqb, ltb}
use lib.ListN.{length, take, length-take}
use lib.Seq.{take_all, length-take-le}
use borrow.Author.Tests.{ne_eqb, lt-ltb, le-ltb}
use Rattle.model.specs.declared.Head.{Head}
use Rattle.model.specs.Sums.{all}
use Rattle.model.specs.Limits.{row_room}
use Rattle.model.specs.Format.{head_bits, head_bytes, head_of, bit_length, byte_length}
use Rattle.model.specs.Refusal.{first, head_checks, HeadAccepted, read_refusal}
use Rattle.model.proofs.Facts.{numbered, first_append}
use Rattle.model.proofs.SumLaws.{below_or_not}
use Rattle.model.proofs.MemoryLaws.{kept}
use Rattle.plan_bits.proofs.RefusalLaws.{readable, read_short, read_head}
use Rattle.codec.specs.Answers.{ReadAnswer, read_answer, row_after}
use Rattle.codec.proofs.Answered.{head_number, head_answered}
use Rattle.codec.proofs.LongInput.{same_head}
use Rattle.mixture_plans.specs.Components.{mixture_check}
use Rattle.mixture_plans.specs.Refusal.{count_outside}
use Rattle.mixture_plans.proofs.RowLaws.{min_is}
use Rattle.mixture_bytes.specs.Format.{count_in, part_of, parts_in, components_in}
use Rattle.mixture_bytes.specs.Refusal.{part_check, early_refusal, count_checks, count_refusal, parts_refusal, bytes_refusal}
use Rattle.mixture_bytes.specs.Reading.{PartRead}

-- every plan has more bytes than a head
longer : (h : Head) → head_bytes ≤ byte_length h
unfolding byte_length bit_length head_bits
longer h = omega arith

-- the part as it is lent
pub part_lent :
    (last : Bool) (bytes : List ℕ) (n : ℕ) → n ≡ cond last (length bytes) (min (byte_length (head_of bytes)) (length bytes)) → take n bytes ≡ part_of last bytes
unfolding part_of
part_lent true bytes n e = rw e (take_all (length bytes) bytes (omega arith))
part_lent false bytes n e = rw e (min_is (byte_length (head_of bytes)) bytes).0

-- it begins with the same head, …
part_head : (last : Bool) (bytes : List ℕ) → head_bytes ≤ length bytes → head_of (part_of last bytes) ≡ head_of bytes
unfolding part_of
part_head true bytes whole = refl
part_head false bytes whole = same_head bytes (byte_length (head_of bytes)) whole (longer (head_of bytes))

-- … and is as short
part_short : (last : Bool) (bytes : List ℕ) → length bytes < head_bytes → length (part_of last bytes) < head_bytes
unfolding part_of
part_short true bytes short = short
part_short false bytes short = omega (arith, length-take (byte_length (head_of bytes)) bytes)

part_whole : (last : Bool) (bytes : List ℕ) → head_bytes ≤ length bytes → head_bytes ≤ length (part_of last bytes)
unfolding part_of
part_whole true bytes whole = whole
part_whole false bytes whole = omega (arith, length-take (byte_length (head_of bytes)) bytes, longer (head_of bytes))

-- what can be told of a plan early is what it is refused with
pub early_is : (last : Bool) (bytes : List ℕ) (n : ℕ) → n ≡ early_refusal bytes → (n ≡ 0 → ⊥) → n ≡ read_refusal (part_of last bytes) row_room
unfolding early_refusal
early_is last bytes n e ne =
    ⊎_elim
    (λ (short : length bytes < head_bytes).
    e ∙ (rw (lt-ltb _ _ short)) ∙ sym (read_short (part_of last bytes) row_room (part_short last bytes short)))
    (λ (whole : head_bytes ≤ length bytes).
    let number : n ≡ first (head_checks (head_of bytes)) = e ∙ (rw (le-ltb _ _ whole)) in
    let head = part_head last bytes whole in
    number
    ∙ ap (λ (h : Head). first (head_checks h)) (sym head)
    ∙ sym (read_head (part_of last bytes) row_room (part_whole last bytes whole) (λ ok. ne (number ∙ ap (λ (h : Head). first (head_checks h)) (sym head) ∙ ok))))
    (below_or_not (length bytes) head_bytes)

-- and where nothing is, the head is there and accepted
pub early_none : (bytes : List ℕ) (n : ℕ) → n ≡ early_refusal bytes → n ≡ 0 → (head_bytes ≤ length bytes) × HeadAccepted (head_of bytes)
unfolding early_refusal
early_none bytes n e none =
    ⊎_elim
    (λ (short : length bytes < head_bytes). absurd (omega (arith, sym none ∙ e ∙ ap (λ (b : Bool). cond b 1 (first (head_checks (head_of bytes)))) (lt-ltb _ _ short))))
    (λ (whole : head_bytes ≤ length bytes). (whole, ap (λ (b : Bool). cond b 1 (first (head_checks (head_of bytes)))) (sym (le-ltb _ _ whole)) ∙ sym e ∙ none))
    (below_or_not (length bytes) head_bytes)

-- the part lies within the bytes
pub part_inside : (last : Bool) (bytes : List ℕ) (n : ℕ) → n ≡ cond last (length bytes) (min (byte_length (head_of bytes)) (length bytes)) → n ≤ length bytes
part_inside true bytes n e = omega (arith, e)
part_inside false bytes n e = omega (arith, e)

-- a plan that is read has the length that its head asks
pub part_read :
    (last : Bool) (bytes : List ℕ) → head_bytes ≤ length bytes → (n : ℕ) → n ≡ cond last (length bytes) (min (byte_length (head_of bytes)) (length bytes)) →
    (r : ReadAnswer) → r ≡ read_answer (take n bytes) row_room → r.refusal ≡ 0 → PartRead last bytes r.head n
part_read last bytes whole n en r er none =
    let lent = part_lent last bytes n en in
    let answered : r ≡ read_answer (part_of last bytes) row_room = er ∙ ap (λ (b : List ℕ). read_answer b row_room) lent in
    let unrefused : read_refusal (part_of last bytes) row_room ≡ 0 = sym (head_number _ _) ∙ sym (ap (λ (a : ReadAnswer). a.refusal) answered) ∙ none in
    let known = readable (part_of last bytes) row_room unrefused in
    let head : r.head ≡ head_of (part_of last bytes) = ap (λ (a : ReadAnswer). a.head) (answered ∙ head_answered _ _ unrefused) in
    record {
      head_is = head;
      same_head = part_head last bytes whole;
      accepted = rw head known.head_ok;
      count_is = count last n en lent known.length_is;
      within = part_inside last bytes n en;
    }
  where
    count :
        (last : Bool) (n : ℕ) → n ≡ cond last (length bytes) (min (byte_length (head_of bytes)) (length bytes)) → take n bytes ≡ part_of last bytes →
        length (part_of last bytes) ≡ byte_length (head_of (part_of last bytes)) → n ≡ byte_length (head_of bytes)
    count last n e lent long =
        sym (length-take-le n bytes (part_inside last bytes n e)) ∙ ap length lent ∙ long ∙ ap byte_length (part_head last bytes whole)

-- a row that a refused plan left alone
pub row_kept :
    (last : Bool) (bytes row : List ℕ) (n : ℕ) → length row ≡ row_room → n ≡ read_refusal (part_of last bytes) row_room → (n ≡ 0 → ⊥) → row_after (part_of last bytes) row ≡ row
row_kept last bytes row n room e ne =
    kept (read_refusal (part_of last bytes) (length row)) _ _ row (λ z. ne (e ∙ ap (read_refusal (part_of last bytes)) (sym room) ∙ z))

-- what reading the part as it is lent answers and leaves
pub part_answered :
    (last : Bool) (bytes : List ℕ) → head_bytes ≤ length bytes → (n : ℕ) → n ≡ cond last (length bytes) (min (byte_length (head_of bytes)) (length bytes)) →
    (row row' : List ℕ) → length row ≡ row_room → (r : ReadAnswer) → r ≡ read_answer (take n bytes) (length row) → row' ≡ row_after (take n bytes) row →
    (r.refusal ≡ read_refusal (part_of last bytes) row_room) × ((r.refusal ≡ 0 → PartRead last bytes r.head n) × (row' ≡ row_after (part_of last bytes) row))
part_answered last bytes whole n en row row' room r er erow =
    let lent = part_lent last bytes n en in
    let here : r ≡ read_answer (take n bytes) row_room = er ∙ ap (read_answer (take n bytes)) room in (
      ap (λ (a : ReadAnswer). a.refusal) here ∙ head_number _ _ ∙ ap (λ (b : List ℕ). read_refusal b row_room) lent,
      (part_read last bytes whole n en r here, erow ∙ ap (λ (b : List ℕ). row_after b row) lent),
    )

-- the checks before any plan is read: the count, and the bytes that the weights need
module _ (bytes : List ℕ) (some : length bytes ≡ 0 → ⊥) (count : ℕ) (is : count ≡ count_in bytes) (r : Bool) (told : r ≡ count_outside count) where
  pub by_outside : r ≡ true → 18 ≡ count_refusal bytes
  unfolding count_checks first
  by_outside e = rw (ne_eqb _ 0 some, ← is, sym told ∙ e)

  pub by_weights : r ≡ false → cond (ltb (length bytes) (1 + 4 * count)) 1 0 ≡ count_refusal bytes
  unfolding count_checks first
  by_weights e = rw (ne_eqb _ 0 some, ← is, sym told ∙ e)

-- a plan's number counts before what comes after it
pub parts_next : (part : List ℕ) (cs : List (ℕ × Bool)) → first (part_check part ∷ cs) ≡ cond (eqb (read_refusal part row_room) 0) (first cs) (read_refusal part row_room)
unfolding first
parts_next part cs = go (eqb (read_refusal part row_room) 0)
  where
    go : (none : Bool) → cond (not none) (read_refusal part row_room) (first cs) ≡ cond none (first cs) (read_refusal part row_room)
    go true = refl
    go false = refl

-- and so do all plans'
pub parts_then :
    (parts : List (List ℕ)) (cs : List (ℕ × Bool)) → first (map part_check parts ++ cs) ≡ cond (eqb (parts_refusal parts) 0) (first cs) (parts_refusal parts)
unfolding first
parts_then [] cs = refl
parts_then (part ∷ parts) cs =
    parts_next part (map part_check parts ++ cs)
    ∙ go (read_refusal part row_room) (parts_then parts cs)
    ∙ ap (λ (n : ℕ). cond (eqb n 0) (first cs) n) (sym (parts_next part (map part_check parts)))
  where
    go :
        (n : ℕ) → first (map part_check parts ++ cs) ≡ cond (eqb (parts_refusal parts) 0) (first cs) (parts_refusal parts) →
        cond (eqb n 0) (first (map part_check parts ++ cs)) n
        ≡ cond (eqb (cond (eqb n 0) (parts_refusal parts) n) 0) (first cs) (cond (eqb n 0) (parts_refusal parts) n)
    go zero later = later
    go (suc n) later = let some = ne_eqb (suc n) 0 (λ z. omega (arith, z)) in rw (some, some)

-- where some plan is refused, its number is given
pub parts_first : (parts : List (List ℕ)) (cs : List (ℕ × Bool)) → (parts_refusal parts ≡ 0 → ⊥) → first (map part_check parts ++ cs) ≡ parts_refusal parts
parts_first parts cs refused = parts_then parts cs ∙ rw (ne_eqb _ 0 refused)

-- the numbers of the checks before any plan are not 0
count_numbered : (bytes : List ℕ) → numbered (count_checks bytes) ≡ true
unfolding all count_checks
count_numbered bytes = refl

-- the checks before any plan is read count first
pub count_then :
    (bytes : List ℕ) →
    bytes_refusal bytes
    ≡ cond (eqb (count_refusal bytes) 0) (first (map part_check (parts_in bytes) ++ mixture_check (components_in bytes) ∷ [])) (count_refusal bytes)
unfolding bytes_refusal
count_then bytes = ap first (append_assoc (count_checks bytes) _ _) ∙ first_append (count_checks bytes) _ (count_numbered bytes)
