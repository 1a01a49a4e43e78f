-- The mixture that bytes hold, as it is read: its plans' rows end to end, its components, and the refusal of the whole.
use Prim.Native.Nat.{ℕ, zero, suc, ◌+◌, ◌*◌, ◌-◌, ◌<◌, ◌≤◌}
use mathlib.Core.Path.{◌≡◌, refl, sym, ap, ap₂, ◌∙◌}
use mathlib.Core.Bool.{false, cond}
use mathlib.Core.List.{List, [], ◌∷◌, ◌++◌, append_assoc, append-nil, map, flat_map}
use native.Mathlib.Omega.{arith}
use native.Mathlib.Nat.{zero-add, add_assoc, add-zero, mul-le-mul_right}
use lib.Dec.{eqb, ltb}
use lib.ListN.{length, get_or, take, drop, length-append, length-drop}
use lib.Seq.{take_all, take_at, drop_at, length-take-le, get_or-take}
use borrow.Author.Tests.{ltb-false, eqb-false, ne_eqb}
use Rattle.model.specs.declared.Head.{Head}
use Rattle.model.specs.Limits.{max_plans, row_room, rows_room}
use Rattle.model.specs.Plan.{row_length}
use Rattle.model.specs.Format.{head_of, row_of}
use Rattle.model.specs.Refusal.{first, read_refusal}
use Rattle.model.proofs.Facts.{none_fits, neither, not_zero}
use Rattle.plan_bits.proofs.RefusalLaws.{readable, row_is}
use Rattle.mixture_plans.specs.declared.Mixture.{Mixture}
use Rattle.mixture_plans.specs.Components.{mixture_check}
use Rattle.mixture_plans.specs.Rows.{HeadRow, plan_rows, heads_used, rows_of, weighed, components_of}
use Rattle.mixture_plans.specs.Refusal.{count_outside, each_checks, mixture_refusal, MixtureAccepted, plans_head}
use Rattle.mixture_plans.proofs.RowLaws.{each_next}
use Rattle.mixture_plans.proofs.CheckLaws.{by_rows}
use Rattle.mixture_bytes.specs.Format.{count_in, weights_in, plans_start, plan_parts, parts_in, head_row, components_in, head_in}
use Rattle.mixture_bytes.specs.Refusal.{part_check, parts_refusal, count_checks, count_refusal, bytes_refusal}
use Rattle.mixture_bytes.specs.Reading.{rows_after, rows_long, PlansRead, MixtureRead}
use Rattle.mixture_bytes.proofs.PartLaws.{parts_next, parts_then, parts_first, count_then}
use Rattle.mixture_bytes.proofs.ReadingLaws.{parts_many}

-- the first plan is not refused, and neither are the others
both_read : (part : List ℕ) (parts : List (List ℕ)) → parts_refusal (part ∷ parts) ≡ 0 → (read_refusal part row_room ≡ 0) × (parts_refusal parts ≡ 0)
both_read part parts e = go (read_refusal part row_room) (sym (parts_next part (map part_check parts)) ∙ e)
  where
    go : (n : ℕ) → cond (eqb n 0) (parts_refusal parts) n ≡ 0 → (n ≡ 0) × (parts_refusal parts ≡ 0)
    go zero z = (refl, z)
    go (suc n) z = absurd (omega (arith, rw (ne_eqb (suc n) 0 (λ y. omega (arith, y))) at z))

-- so each plan is accepted, …
each_read : (parts : List (List ℕ)) → parts_refusal parts ≡ 0 → first (each_checks (map head_row parts)) ≡ 0
unfolding each_checks flat_map first
each_read [] e = refl
each_read (part ∷ parts) e =
    let both = both_read part parts e in
    each_next (head_of part) (row_of part) (map head_row parts) ∙ (rw (readable part row_room both.0).accepted (each_read parts both.1))

-- … their rows have room, …
rows_few : (parts : List (List ℕ)) → parts_refusal parts ≡ 0 → rows_long parts ≤ length parts * row_room
unfolding rows_long
rows_few [] e = omega arith
rows_few (part ∷ parts) e =
    let both = both_read part parts e in
    omega (arith, rows_few parts both.1, (readable part row_room both.0).row_fits)

-- … and lie in the row end to end
rows_lie : (parts : List (List ℕ)) (at : ℕ) (row : List ℕ) → parts_refusal parts ≡ 0 → at + rows_long parts ≤ length row → take (at + rows_long parts) (rows_after parts at row) ≡ take at row ++ flat_map row_of parts
unfolding rows_after rows_long flat_map
rows_lie [] at row e l = ap (λ (n : ℕ). take n row) (add-zero at) ∙ sym (append-nil (take at row))
rows_lie (part ∷ parts) at row e l =
    let both = both_read part parts e in
    let L : ℕ = row_length (head_of part) in
    let next : List ℕ = take at row ++ row_of part ++ drop (at + L) row in
    let front : length (take at row ++ row_of part) ≡ at + L = length-append (take at row) (row_of part) ∙ (rw (row_is part, length-take-le at row (omega arith)) refl) in
    let long : at + L + rows_long parts ≤ length next = omega (arith, length-append (take at row ++ row_of part) (drop (at + L) row), front, length-drop (at + L) row) in
    rw both.0
    (ap (λ (n : ℕ). take n (rows_after parts (at + L) next)) (sym (add_assoc at L (rows_long parts)))
    ∙ rows_lie parts (at + L) next both.1 long
    ∙ ap (λ (xs : List ℕ). xs ++ flat_map row_of parts) (take_at (take at row ++ row_of part) (drop (at + L) row) (at + L) front)
    ∙ append_assoc (take at row) (row_of part) (flat_map row_of parts))

-- cut apart again by their heads they are the plans
rows_apart : (parts : List (List ℕ)) → plan_rows (map head_of parts) (flat_map row_of parts) ≡ map head_row parts
unfolding plan_rows flat_map
rows_apart [] = refl
rows_apart (part ∷ []) = ap (λ (xs : List ℕ). (head_of part, xs) ∷ []) (append-nil (row_of part))
rows_apart (part ∷ part' ∷ parts) =
    rw (take_at (row_of part) (flat_map row_of (part' ∷ parts)) (row_length (head_of part)) (row_is part), drop_at (row_of part) (flat_map row_of (part' ∷ parts)) (row_length (head_of part)) (row_is part))
    (ap (λ (rs : List HeadRow). head_row part ∷ rs) (rows_apart (part' ∷ parts)))

-- what is known where no check before the plans fits
pub record Counted (bytes : List ℕ) : Type 0 where
  pub some : 0 < count_in bytes
  pub few : count_in bytes ≤ max_plans
  pub within : count_outside (count_in bytes) ≡ false
  pub enough : plans_start (count_in bytes) ≤ length bytes

pub count_known : (bytes : List ℕ) → count_refusal bytes ≡ 0 → Counted bytes
unfolding count_checks count_outside
count_known bytes none =
    let first_ok = none_fits _ _ _ none in
    let count_ok = none_fits _ _ _ first_ok.1 in
    let in_range = neither (eqb (count_in bytes) 0) (ltb max_plans (count_in bytes)) count_ok.0 in
    record {
      some = not_zero (eqb-false _ _ in_range.0);
      few = ltb-false _ _ in_range.1;
      within = count_ok.0;
      enough = ltb-false _ _ (none_fits _ _ _ count_ok.1).0;
    }

-- a refusal before the plans, and one of theirs
pub refused_early : (bytes : List ℕ) (n : ℕ) → n ≡ count_refusal bytes → (n ≡ 0 → ⊥) → n ≡ bytes_refusal bytes
refused_early bytes n is ne = sym (count_then bytes ∙ (rw (← is, ne_eqb n 0 ne)))

past_count :
    (bytes : List ℕ) → count_refusal bytes ≡ 0 → bytes_refusal bytes ≡ first (map part_check (parts_in bytes) ++ mixture_check (components_in bytes) ∷ [])
past_count bytes none = count_then bytes ∙ rw none

refused_part : (bytes : List ℕ) → count_refusal bytes ≡ 0 → (n : ℕ) → n ≡ parts_refusal (parts_in bytes) → (n ≡ 0 → ⊥) → n ≡ bytes_refusal bytes
refused_part bytes none n en ne =
    sym (past_count bytes none ∙ parts_first (parts_in bytes) (mixture_check (components_in bytes) ∷ []) (λ z. ne (en ∙ z)) ∙ sym en)

-- The mixture as it was read: its refusal is that of the bytes, and where there is none it holds what they say.
module _
    (bytes : List ℕ) (none : count_refusal bytes ≡ 0) (all_read : parts_refusal (parts_in bytes) ≡ 0)
    (heads : List Head) (used : ℕ) (plans : PlansRead (parts_in bytes) heads used) (blank row : List ℕ) (room : length blank ≡ rows_room)
    (left : row ≡ rows_after (parts_in bytes) 0 blank) (weights : List ℕ) (weighing : take (count_in bytes) weights ≡ weights_in (count_in bytes) (drop 1 bytes))
    (weights_long : length weights ≡ max_plans)
  where
    abbrev m : Mixture
    m = record { count = count_in bytes; heads = heads; weights = weights }

    known : Counted bytes
    known = count_known bytes none

    many : length (parts_in bytes) ≡ count_in bytes
    many = parts_many (count_in bytes) (drop (plans_start (count_in bytes)) bytes)

    used_fits : used ≤ rows_room
    used_fits = omega (arith, plans.used_is, rows_few (parts_in bytes) all_read, many, mul-le-mul_right row_room known.few)

    rows_are : take used row ≡ flat_map row_of (parts_in bytes)
    rows_are =
        ap₂ take (plans.used_is ∙ sym (zero-add (rows_long (parts_in bytes)))) left
        ∙ rows_lie (parts_in bytes) 0 blank all_read (omega (arith, room, used_fits, plans.used_is))

    heads_are : heads_used m ≡ map head_of (parts_in bytes)
    heads_are = ap (λ (n : ℕ). take n heads) (sym many) ∙ plans.heads_are

    plans_are : rows_of m (take used row) ≡ map head_row (parts_in bytes)
    plans_are = ap₂ plan_rows heads_are rows_are ∙ rows_apart (parts_in bytes)

    components_are : components_of m (take used row) ≡ components_in bytes
    unfolding components_of components_in
    components_are = ap₂ weighed weighing plans_are

    pub number_is : mixture_refusal m (take used row) ≡ bytes_refusal bytes
    number_is =
        let last : ℕ = first (mixture_check (components_in bytes) ∷ []) in
        let ours : mixture_refusal m (take used row) ≡ last = by_rows m (take used row) known.within ∙ (rw (plans_are, each_read (parts_in bytes) all_read, components_are)) in
        let theirs : bytes_refusal bytes ≡ last =
        past_count bytes none ∙ parts_then (parts_in bytes) (mixture_check (components_in bytes) ∷ []) ∙ (rw all_read) in
        ours ∙ sym theirs

    head_is : plans_head m ≡ head_in bytes
    head_is = go (count_in bytes) refl (parts_in bytes) many heads_are
      where
        go : (n : ℕ) → count_in bytes ≡ n → (parts : List (List ℕ)) → length parts ≡ n → take n heads ≡ map head_of parts → get_or heads 0 (record { months = 0; opening = 0; sizes = 0; income = 0 }) ≡ head_of (get_or parts 0 [])
        go zero e parts l h = absurd (omega (arith, e, known.some))
        go (suc n) e [] l h = absurd (omega (arith, l))
        go (suc n) e (part ∷ parts) l h =
            sym (get_or-take (suc n) heads 0 (record { months = 0; opening = 0; sizes = 0; income = 0 }) (omega arith))
            ∙ ap (λ (hs : List Head). get_or hs 0 (record { months = 0; opening = 0; sizes = 0; income = 0 })) h

    pub mixture_read : length row ≡ length blank → MixtureAccepted m (take used row) → MixtureRead bytes m used row
    mixture_read same accepted =
        record {
          within = omega (arith, used_fits, same, room);
          heads_long = plans.heads_long;
          weights_long = weights_long;
          accepted = accepted;
          components = components_are;
          head = head_is;
        }

    pub used_inside : length row ≡ length blank → used ≤ length row
    used_inside same = omega (arith, used_fits, same, room)

-- the plans' bytes and the weights' as they are lent
pub parts_lent : (bytes : List ℕ) (count : ℕ) → count ≡ count_in bytes → plan_parts count (take (length bytes - (1 + 4 * count)) (drop (1 + 4 * count) bytes)) ≡ parts_in bytes
parts_lent bytes count e =
    ap (plan_parts count) (take_all (length bytes - (1 + 4 * count)) (drop (1 + 4 * count) bytes) (rw length-drop (omega arith)))
    ∙ ap (λ (n : ℕ). plan_parts n (drop (plans_start n) bytes)) e

weights_lent : (bytes : List ℕ) (count : ℕ) → count ≡ count_in bytes → weights_in count (take (length bytes - 1) (drop 1 bytes)) ≡ weights_in (count_in bytes) (drop 1 bytes)
weights_lent bytes count e =
    ap (weights_in count) (take_all (length bytes - 1) (drop 1 bytes) (rw length-drop (omega arith))) ∙ ap (λ (n : ℕ). weights_in n (drop 1 bytes)) e

-- the same of what the functions answer
module _
    (bytes : List ℕ) (none : count_refusal bytes ≡ 0) (count : ℕ) (counted : count ≡ count_in bytes) (of_plans : ℕ)
    (number : of_plans ≡ parts_refusal (plan_parts count (take (length bytes - (1 + 4 * count)) (drop (1 + 4 * count) bytes))))
  where
    pub refused_plan : (of_plans ≡ 0 → ⊥) → of_plans ≡ bytes_refusal bytes
    refused_plan ne = refused_part bytes none of_plans (number ∙ ap parts_refusal (parts_lent bytes count counted)) ne

    module _
        (unrefused : of_plans ≡ 0) (heads : List Head) (used : ℕ)
        (plans : PlansRead (plan_parts count (take (length bytes - (1 + 4 * count)) (drop (1 + 4 * count) bytes))) heads used)
        (blank row : List ℕ) (room : rows_room ≡ length blank)
        (left : row ≡ rows_after (plan_parts count (take (length bytes - (1 + 4 * count)) (drop (1 + 4 * count) bytes))) 0 blank) (same : length row ≡ length blank)
        (weights : List ℕ) (weighing : take count weights ≡ weights_in count (take (length bytes - 1) (drop 1 bytes))) (weights_long : length weights ≡ max_plans)
      where
        all_read : parts_refusal (parts_in bytes) ≡ 0
        all_read = ap parts_refusal (sym (parts_lent bytes count counted)) ∙ sym number ∙ unrefused

        plans_as : PlansRead (parts_in bytes) heads used
        plans_as = rw (parts_lent bytes count counted) at plans

        left_as : row ≡ rows_after (parts_in bytes) 0 blank
        left_as = left ∙ ap (λ ps. rows_after ps 0 blank) (parts_lent bytes count counted)

        weights_as : take (count_in bytes) weights ≡ weights_in (count_in bytes) (drop 1 bytes)
        weights_as = ap (λ (n : ℕ). take n weights) (sym counted) ∙ weighing ∙ weights_lent bytes count counted

        pub lent_inside : used ≤ length row
        lent_inside = used_inside bytes none all_read heads used plans_as blank row (sym room) left_as weights weights_as weights_long same

        pub number_as : (n : ℕ) → n ≡ mixture_refusal (record { count = count; heads = heads; weights = weights }) (take used row) → n ≡ bytes_refusal bytes
        number_as n en = rw counted at en ∙ number_is bytes none all_read heads used plans_as blank row (sym room) left_as weights weights_as weights_long

        -- both of the number: it is the bytes', and where it is none the mixture that was read is theirs
        pub read_as :
            (n : ℕ) → n ≡ mixture_refusal (record { count = count; heads = heads; weights = weights }) (take used row) →
            (n ≡ bytes_refusal bytes) × (n ≡ 0 → MixtureRead bytes (record { count = count; heads = heads; weights = weights }) used row)
        read_as n en = (
          number_as n en,
          λ z. rw counted (mixture_read bytes none all_read heads used plans_as blank row (sym room) left_as weights weights_as weights_long same (rw counted at (sym en ∙ z))),
        )
