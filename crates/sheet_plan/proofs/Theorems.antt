-- What an accepted sheet gives is a plan that document 01 accepts, and its bytes can be written.
use Prim.Native.Nat.{ℕ, zero, suc, ◌≤◌, ◌<◌}
use mathlib.Core.Path.{◌≡◌, refl, sym, ap, ap₂, ◌∙◌}
use mathlib.Core.Bool.{Bool, true, false, cond}
use mathlib.Core.List.{List, ◌++◌}
use native.Mathlib.Numerals.{add-one}
use native.Mathlib.Omega.{arith}
use borrow.Author.Tests.{le-ltb, eq-eqb, ne_eqb}
use lib.Dec.{ltb}
use lib.ListN.{length, take, drop, length-take}
use lib.Seq.{take_all, take_at, drop_at}
use mathlib.Core.Logic.{⊎_elim}
use Rattle.model.specs.Limits.{max_sizes, row_room}
use Rattle.model.specs.Scale.{S}
use Rattle.model.specs.Sums.{total, any}
use Rattle.model.specs.Plan.{row_length}
use Rattle.model.specs.declared.Head.{Head}
use Rattle.model.specs.Format.{byte_length, bytes_of}
use Rattle.model.specs.Refusal.{first, HeadAccepted, Accepted, plan_refusal, write_refusal}
use Rattle.model.proofs.SumLaws.{none_to, none_append, any_map, total_append, below_or_not}
use Rattle.model.proofs.Facts.{head_facts}
use Rattle.plan.proofs.Checks.{by_weights}
use Rattle.doubles.proofs.PartLaws.{parts_fit}
use Rattle.codec.specs.Answers.{length_answer, read_answer, row_after, write_answer, bytes_after}
use Rattle.model.specs.Memory.{filled_after}
use Rattle.codec.proofs.Answered.{read_as, written_as, head_answered, head_number, length_number, length_refused}
use Rattle.model.proofs.MemoryLaws.{filled, kept}
use Rattle.codec.proofs.Theorems.{same_head, same_row}
use Rattle.plan_bits.proofs.RefusalLaws.{write_room}
use Rattle.sheet_values.specs.declared.RuleSheet.{RuleSheet}
use Rattle.sheet_values.specs.Sheet.{sheet_length, sheet_of, sheet_head}
use Rattle.sheet_values.specs.Rules.{chances, weights, tail, size_part, sheet_row}
use Rattle.sheet_values.specs.Terms.{MakesPlan}
use Rattle.sheet_checks.specs.Refusal.{sheet_checks, sheet_refusal}
use Rattle.sheet_plan.specs.Answers.{plan_head, plan_row, sheet_answer, sheet_row_after, plan_answer, plan_bytes_after}
use Rattle.sheet_values.proofs.RuleLaws.{weight_within, chance_within, chances_length, row_is, row_tail}
use Rattle.sheet_checks.proofs.CheckLaws.{SheetFacts, sheet_facts, tail_is, not_a_sheet, sheet_first, refused_here, passed_on, of_either, refusal_is, refused_early, accepted, all_passed, eight, weights_within}
use Rattle.sheet_values.proofs.GuardLaws.{weights_never_pass}

-- ---- the numbers of a sheet's row

module _ (s : RuleSheet) (plan : MakesPlan s) where
  -- none is above S
  chances_small : any (ltb S) (chances s.rule s.months) ≡ false
  unfolding chances
  chances_small =
      any_map (ltb S) _ _
      ∙ none_to s.months _ (λ i l. le-ltb _ _ (parts_fit _ (rw add-one at (chance_within s.rule s.months plan.chances_within i l))))

  weights_small : any (ltb S) (weights s.alpha s.sizes) ≡ false
  unfolding weights
  weights_small =
      any_map (ltb S) _ _
      ∙ none_to s.sizes _ (λ i l. le-ltb _ _ (parts_fit _ (weight_within s.alpha plan.alpha_within (suc i))))

  row_small : any (ltb S) (sheet_row s) ≡ false
  unfolding sheet_row size_part any tail
  row_small =
      none_append (ltb S) (chances s.rule s.months) _ chances_small
      (none_append (ltb S) (weights s.alpha s.sizes) _ weights_small
      (rw (le-ltb S (tail s.alpha s.sizes) (omega arith))))

  -- the weights and the tail add up to S
  weights_whole : total (drop s.months (sheet_row s)) ≡ S
  unfolding sheet_row size_part total tail
  weights_whole =
      ap total (drop_at (chances s.rule s.months) _ s.months (chances_length s.rule s.months))
      ∙ total_append (weights s.alpha s.sizes) _
      ∙ (omega (arith, weights_never_pass s.alpha plan.alpha_within s.sizes plan.sizes_fit))

-- ---- the plan of an accepted sheet

module _ (bytes : List ℕ) (none : first (sheet_checks bytes) ≡ 0) where
  known : SheetFacts bytes
  known = sheet_facts bytes none

  pub accepted_plan : Accepted (plan_head bytes) (plan_row bytes)
  unfolding sheet_head
  accepted_plan =
      let s = sheet_of bytes in
      by_weights (plan_head bytes) (plan_row bytes) known.head_ok (row_is s) (row_small s known.makes_plan) S (sym (weights_whole s known.makes_plan))
      ∙ rw (eq-eqb S S refl, row_tail s, sym (tail_is s) ∙ known.tail_ok)

  -- its bytes are refused for want of room alone, with the number of the sheet's call
  pub write_number : (room : ℕ) → write_refusal (plan_head bytes) (plan_row bytes) room ≡ sheet_refusal bytes (byte_length (plan_head bytes)) room
  write_number room =
      write_room (plan_head bytes) (plan_row bytes) room accepted_plan
      ∙ sym (refusal_is bytes (byte_length (plan_head bytes)) room ∙ passed_on _ _ none)

  -- its row has room in a row for every plan
  row_fits : row_length (plan_head bytes) ≤ row_room
  row_fits = omega (arith, head_facts _ known.head_ok)

-- so a sheet that is read into such a row is refused as its checks say
pub read_number : (bytes : List ℕ) → sheet_refusal bytes (row_length (plan_head bytes)) row_room ≡ first (sheet_checks bytes)
read_number bytes = go (first (sheet_checks bytes)) refl
  where
    go : (n : ℕ) → first (sheet_checks bytes) ≡ n → sheet_refusal bytes (row_length (plan_head bytes)) row_room ≡ n
    go zero e = accepted bytes _ _ e (row_fits bytes e)
    go (suc n) e = refused_early bytes _ _ (λ z. omega (arith, e, z)) ∙ e

sizes_few : (s : RuleSheet) → HeadAccepted (sheet_head s) → s.sizes ≤ max_sizes
unfolding sheet_head
sizes_few s ok = (head_facts _ ok).sizes_fit

-- no sheet reaches the guard: 8 is never given
pub never_8 : (bytes : List ℕ) (needed room : ℕ) → sheet_refusal bytes needed room ≡ 8 → ⊥
never_8 bytes needed room e = room_number (ltb room needed) (of_either _ _ 8 guard (sym (refusal_is bytes needed room) ∙ e)).1
  where
    room_number : (b : Bool) → ◌≡◌ {A = ℕ} (cond b 11 0) 8 → ⊥
    room_number true e = omega (arith, e)
    room_number false e = omega (arith, e)

    guard : first (sheet_checks bytes) ≡ 8 → ⊥
    guard e =
        let known = eight bytes e in
        weights_within (sheet_of bytes)
        (weights_never_pass (sheet_of bytes).alpha known.rules.alpha_within (sheet_of bytes).sizes (sizes_few (sheet_of bytes) known.head_ok))
        known.pass

-- the bytes that are written lie within those that are lent
pub plan_fits : (bytes : List ℕ) (room : ℕ) → (plan_answer bytes room).length ≤ room
unfolding length_answer
plan_fits bytes room = go (sheet_refusal bytes needed room) (λ none. (all_passed bytes needed room none).1)
  where
    needed : ℕ
    needed = byte_length (plan_head bytes)

    go : (n : ℕ) → (n ≡ 0 → needed ≤ room) → (length_answer n needed).length ≤ room
    go zero fits = fits refl
    go (suc n) fits = rw (ne_eqb (suc n) 0 (λ z. omega (arith, z))) (omega arith)

-- ---- of what the calls answer and leave

-- what reading a sheet gives is a plan that document 01 accepts
module _ (bytes lent : List ℕ) (done : (sheet_answer bytes (length lent)).refusal ≡ 0) where
  abbrev head : Head
  head = (sheet_answer bytes (length lent)).head

  none_read : sheet_refusal bytes (row_length (plan_head bytes)) (length lent) ≡ 0
  none_read = sym (head_number _ (plan_head bytes)) ∙ done

  head_is : head ≡ plan_head bytes
  head_is = ap (λ a. a.head) (head_answered _ (plan_head bytes) none_read)

  pub gives_a_plan : Accepted head (take (row_length head) (sheet_row_after bytes lent))
  gives_a_plan =
      let row = take_at (plan_row bytes) _ (row_length (plan_head bytes)) (row_is (sheet_of bytes)) in
      ap₂ plan_refusal head_is
      (ap₂ (λ n l. take n l) (ap row_length head_is) (filled _ (row_length (plan_head bytes)) (plan_row bytes) lent none_read) ∙ row)
      ∙ accepted_plan bytes (all_passed bytes _ _ none_read).0

-- the bytes that are written for a sheet read back as its plan: the head, and the row with what lay past it
module _
    (bytes lent other : List ℕ)
    (done : (plan_answer bytes (length lent)).refusal ≡ 0)
    (fits : row_length (plan_head bytes) ≤ length other)
  where
    abbrev written : List ℕ
    written = take (plan_answer bytes (length lent)).length (plan_bytes_after bytes lent)

    -- they are those of writing the plan
    number : write_refusal (plan_head bytes) (plan_row bytes) (length lent) ≡ sheet_refusal bytes (byte_length (plan_head bytes)) (length lent)
    number = write_number bytes (all_passed bytes _ _ (sym (length_number _ (byte_length (plan_head bytes))) ∙ done)).0 (length lent)

    written_is : take (write_answer (plan_head bytes) (plan_row bytes) (length lent)).length (bytes_after (plan_head bytes) (plan_row bytes) lent) ≡ written
    written_is =
        ap
        (λ n. take (length_answer n (byte_length (plan_head bytes))).length (filled_after n (byte_length (plan_head bytes)) (bytes_of (plan_head bytes) (plan_row bytes)) lent))
        number

    write_done : (write_answer (plan_head bytes) (plan_row bytes) (length lent)).refusal ≡ 0
    write_done = ap (λ n. (length_answer n (byte_length (plan_head bytes))).refusal) number ∙ done

    pub same_head_back : read_answer written (length other) ≡ read_as 0 (plan_head bytes)
    same_head_back = ap (λ l. read_answer l (length other)) (sym written_is) ∙ same_head (plan_head bytes) (plan_row bytes) lent other write_done fits

    pub same_row_back : row_after written other ≡ plan_row bytes ++ drop (row_length (plan_head bytes)) other
    same_row_back = ap (λ l. row_after l other) (sym written_is) ∙ same_row (plan_head bytes) (plan_row bytes) lent other write_done fits

-- ---- input that is longer than a sheet

-- it is refused with 5, and nothing is written
module _ (bytes : List ℕ) (long : sheet_length < length bytes) where
  too_long : (needed room : ℕ) → sheet_refusal bytes needed room ≡ 5
  too_long needed room =
      let kinds = not_a_sheet bytes (λ e. omega (arith, e)) in
      let some : (n : ℕ) → n ≡ 5 → n ≡ 0 → ⊥ = λ n five z. omega (arith, five, z) in
      let checks = sheet_first bytes ∙ refused_here _ _ (some _ kinds) ∙ kinds in
      refused_early bytes needed room (some _ checks) ∙ checks

  long_answer : (room : ℕ) → plan_answer bytes room ≡ written_as 5 0
  long_answer room =
      let five = too_long (byte_length (plan_head bytes)) room in
      ap (λ n. length_answer n (byte_length (plan_head bytes))) five ∙ length_refused 5 _ (λ z. omega (arith, z))

  long_memory : (lent : List ℕ) → plan_bytes_after bytes lent ≡ lent
  long_memory lent = kept _ _ _ lent (λ z. omega (arith, too_long (byte_length (plan_head bytes)) (length lent), z))

-- so a first part that is longer than a sheet answers for all of it
cut :
    (bytes : List ℕ) (k : ℕ) → sheet_length < k
    → (length bytes ≤ k → take k bytes ≡ bytes) × (k ≤ length bytes → sheet_length < length (take k bytes))
cut bytes k longer = (λ l. take_all k bytes l, λ l. simp length-take (omega arith))

module _ (bytes : List ℕ) (k : ℕ) (longer : sheet_length < k) where
  pub beyond_answer : (room : ℕ) → plan_answer (take k bytes) room ≡ plan_answer bytes room
  beyond_answer room =
      ⊎_elim
      (λ l. long_answer (take k bytes) ((cut bytes k (omega arith)).1 (omega arith)) room ∙ sym (long_answer bytes (omega arith) room))
      (λ l. ap (λ b. plan_answer b room) ((cut bytes k (omega arith)).0 l))
      (below_or_not k (length bytes))

  pub beyond_memory : (lent : List ℕ) → plan_bytes_after (take k bytes) lent ≡ plan_bytes_after bytes lent
  beyond_memory lent =
      ⊎_elim
      (λ l. long_memory (take k bytes) ((cut bytes k (omega arith)).1 (omega arith)) lent ∙ sym (long_memory bytes (omega arith) lent))
      (λ l. ap (λ b. plan_bytes_after b lent) ((cut bytes k (omega arith)).0 l))
      (below_or_not k (length bytes))
