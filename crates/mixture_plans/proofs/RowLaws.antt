-- The rows of a mixture's plans, end to end: the next one and those after it, and the checks plan by plan.
use Prim.Native.Nat.{ℕ, suc, ◌+◌, ◌-◌, ◌<◌, ◌≤◌, min}
use mathlib.Core.Path.{◌≡◌, refl, sym, ap, ap₂, ◌∙◌}
use mathlib.Core.Bool.{Bool, true, false, cond}
use mathlib.Core.List.{List, [], ◌∷◌, flat_map}
use mathlib.Core.Logic.{⊎_elim}
use native.Mathlib.Numerals.{add-one}
use native.Mathlib.Omega.{arith}
use lib.Dec.{eqb}
use lib.ListN.{length, get_or, take, drop, length-take, length-drop, drop_of_length-le}
use lib.Seq.{take_all, take-length, drop-length, drop-cons, drop-drop, get_or-take, length-take-le}
use borrow.Author.Tests.{eq-eqb, ne_eqb}
use Rattle.model.specs.declared.Head.{Head}
use Rattle.model.specs.Plan.{row_length}
use Rattle.model.specs.Refusal.{first, head_checks, plan_checks, plan_refusal, Accepted}
use Rattle.model.proofs.Facts.{facts, plan_first, plan_numbered, none_fits_append}
use Rattle.model.proofs.SumLaws.{below_or_not}
use Rattle.plan.proofs.Checks.{by_head}
use Rattle.mixture_plans.specs.Rows.{HeadRow, plan_rows}
use Rattle.mixture_plans.specs.Refusal.{each_checks}

-- as many numbers as there are of those that a plan takes
pub min_is : (k : ℕ) (xs : List ℕ) → (take (min k (length xs)) xs ≡ take k xs) × (drop (min k (length xs)) xs ≡ drop k xs)
min_is k xs =
    ⊎_elim
    (λ (l : k < length xs). let e : min k (length xs) ≡ k = omega arith in rw e (refl, refl))
    (λ (l : length xs ≤ k).
    let e : min k (length xs) ≡ length xs = omega arith in
    rw (e, take_all k xs l, drop_of_length-le xs l) (take-length xs, drop-length xs))
    (below_or_not k (length xs))

-- the i-th of so many is the last where none comes after it
pub none_after : (i count : ℕ) → i < count → eqb (i + 1) count ≡ eqb (count - (i + 1)) 0
none_after i count l =
    ⊎_elim
    (λ (m : i + 1 < count). ne_eqb (i + 1) count (λ z. omega (arith, z)) ∙ sym (ne_eqb (count - (i + 1)) 0 (λ z. omega (arith, z))))
    (λ (m : count ≤ i + 1). eq-eqb (i + 1) count (omega arith) ∙ sym (eq-eqb (count - (i + 1)) 0 (omega arith)))
    (below_or_not (i + 1) count)

-- the next plan's row, and those after it
cut_next :
    (h : Head) (hs : List Head) (xs : List ℕ) (last : Bool) → last ≡ eqb (length hs) 0 → (n : ℕ) → n ≡ cond last (length xs) (min (row_length h) (length xs)) →
    plan_rows (h ∷ hs) xs ≡ (h, take n xs) ∷ plan_rows hs (drop n xs)
unfolding plan_rows
cut_next h [] xs last e n en = rw (en, e) (ap (λ (part : List ℕ). (h, part) ∷ []) (sym (take_all (length xs) xs (omega arith))))
cut_next h (h' ∷ hs) xs last e n en =
    rw (en, e ∙ ne_eqb (length (h' ∷ hs)) 0 (λ z. omega (arith, z)))
    (ap₂ (λ (part rest : List ℕ). (h, part) ∷ plan_rows (h' ∷ hs) rest) (sym (min_is (row_length h) xs).0) (sym (min_is (row_length h) xs).1))

-- the checks of the next plan count before those of the others
pub each_next :
    (h : Head) (part : List ℕ) (rest : List HeadRow) →
    first (each_checks ((h, part) ∷ rest)) ≡ cond (eqb (plan_refusal h part) 0) (first (each_checks rest)) (plan_refusal h part)
unfolding each_checks flat_map
each_next h part rest = plan_first h part (each_checks rest)

-- The plans that are still to be checked, from the i-th on, whose rows begin at `start`: they decide.
pub record Checking (heads : List Head) (row : List ℕ) (count i start : ℕ) : Type 0 where
  pub turns : i ≤ count
  pub inside : start ≤ length row
  pub whole : first (each_checks (plan_rows (drop i (take count heads)) (drop start row))) ≡ first (each_checks (plan_rows (take count heads) row))

module _ (heads : List Head) (row : List ℕ) (count : ℕ) (enough : count ≤ length heads) where
  -- the heads from the i-th on
  pub heads_from : (i : ℕ) (d : Head) → i < count → drop i (take count heads) ≡ get_or heads i d ∷ drop (i + 1) (take count heads)
  heads_from i d l =
      rw add-one
      (drop-cons (take count heads) i d (rw (length-take-le count heads enough) l)
      ∙ ap (λ (h : Head). h ∷ drop (suc i) (take count heads)) (get_or-take count heads i d l))

  module _ (i start : ℕ) (so_far : Checking heads row count i start) where
    pub checking_done : count ≤ i → 0 ≡ first (each_checks (plan_rows (take count heads) row))
    unfolding plan_rows each_checks flat_map first
    checking_done all =
        let none : drop i (take count heads) ≡ [] = drop_of_length-le (take count heads) {i = i} (rw (length-take-le count heads enough) all) in
        rw none at so_far.whole

    module _ (d : Head) (l : i < count) where
      abbrev h : Head
      h = get_or heads i d

      -- what is left with the next plan taken off
      module _ (last : Bool) (el : last ≡ eqb (i + 1) count) (end : ℕ) (ee : end ≡ cond last (length row) (start + min (row_length h) (length row - start))) where
        end_inside : (start ≤ end) × (end ≤ length row)
        end_inside = go last end ee
          where
            go : (last : Bool) (end : ℕ) → end ≡ cond last (length row) (start + min (row_length h) (length row - start)) → (start ≤ end) × (end ≤ length row)
            go true end e = (omega (arith, so_far.inside), omega (arith, e))
            go false end e = (omega (arith, e), omega (arith, e, so_far.inside))

        after : end - start ≡ cond last (length (drop start row)) (min (row_length h) (length (drop start row)))
        after = rw length-drop (go last end ee)
          where
            go :
                (last : Bool) (end : ℕ) → end ≡ cond last (length row) (start + min (row_length h) (length row - start)) →
                end - start ≡ cond last (length row - start) (min (row_length h) (length row - start))
            go true end e = omega (arith, e)
            go false end e = omega (arith, e)

        last_is : last ≡ eqb (length (drop (i + 1) (take count heads))) 0
        last_is = rw (length-drop, length-take-le count heads enough) (el ∙ none_after i count l)

        left : plan_rows (drop i (take count heads)) (drop start row) ≡ (h, take (end - start) (drop start row)) ∷ plan_rows (drop (i + 1) (take count heads)) (drop end row)
        left =
            let on : start + (end - start) ≡ end = omega (arith, end_inside) in
            ap (λ (hs : List Head). plan_rows hs (drop start row)) (heads_from i d l)
            ∙ cut_next h (drop (i + 1) (take count heads)) (drop start row) last last_is (end - start) after
            ∙ ap (λ (xs : List ℕ). (h, take (end - start) (drop start row)) ∷ plan_rows (drop (i + 1) (take count heads)) xs) (drop-drop (end - start) start row ∙ ap (λ (n : ℕ). drop n row) on)

        decides :
            first (each_checks (plan_rows (take count heads) row))
            ≡ cond (eqb (plan_refusal h (take (end - start) (drop start row))) 0) (first (each_checks (plan_rows (drop (i + 1) (take count heads)) (drop end row))))
            (plan_refusal h (take (end - start) (drop start row)))
        decides = sym so_far.whole ∙ ap (λ rows. first (each_checks rows)) left ∙ each_next h _ _

        -- this plan is refused …
        pub checking_refused :
            (n : ℕ) → n ≡ plan_refusal h (take (end - start) (drop start row)) → (n ≡ 0 → ⊥) → n ≡ first (each_checks (plan_rows (take count heads) row))
        checking_refused n e ne = sym (decides ∙ (rw (← e, ne_eqb n 0 ne)))

        -- … or it is not, and the others decide
        pub checking_more : Accepted h (take (end - start) (drop start row)) → Checking heads row count (i + 1) end
        checking_more accepted =
            record { turns = omega arith; inside = end_inside.1; whole = sym (decides ∙ rw accepted) }

      -- its head is
      pub checking_head : (n : ℕ) → n ≡ first (head_checks h) → (n ≡ 0 → ⊥) → n ≡ first (each_checks (plan_rows (take count heads) row))
      checking_head n e ne =
          e
          ∙ sym (by_head h _ (λ z. ne (e ∙ z)))
          ∙ checking_refused (eqb (i + 1) count) refl _ refl _ refl (λ z. ne (e ∙ sym (by_head h _ (λ y. ne (e ∙ y))) ∙ z))

-- Where every plan passes its checks, the next one is the first part of what is left, as long as its head asks, and so are those after it.
pub record Next (h : Head) (hs : List Head) (xs : List ℕ) : Type 0 where
  pub is : plan_rows (h ∷ hs) xs ≡ (h, take (row_length h) xs) ∷ plan_rows hs (drop (row_length h) xs)
  pub accepted : Accepted h (take (row_length h) xs)
  pub long : row_length h ≤ length xs
  pub later : first (each_checks (plan_rows hs (drop (row_length h) xs))) ≡ 0

-- the first plan passes, and so do the others
both_pass : (h : Head) (part : List ℕ) (rest : List HeadRow) → first (each_checks ((h, part) ∷ rest)) ≡ 0 → (plan_refusal h part ≡ 0) × (first (each_checks rest) ≡ 0)
unfolding each_checks flat_map plan_refusal
both_pass h part rest e = none_fits_append (plan_checks h part) (each_checks rest) (plan_numbered h part) e

pub next : (h : Head) (hs : List Head) (xs : List ℕ) → first (each_checks (plan_rows (h ∷ hs) xs)) ≡ 0 → Next h hs xs
unfolding plan_rows
next h [] xs e =
    let pass = both_pass h xs [] e in
    let whole : length xs ≡ row_length h = (facts h xs pass.0).row_is in
    let all : take (row_length h) xs ≡ xs = take_all (row_length h) xs (omega arith) in
    record { is = ap (λ (part : List ℕ). (h, part) ∷ []) (sym all); accepted = rw all pass.0; long = omega arith; later = pass.1 }
next h (h' ∷ hs) xs e =
    let pass = both_pass h (take (row_length h) xs) (plan_rows (h' ∷ hs) (drop (row_length h) xs)) e in
    record { is = refl; accepted = pass.0; long = omega (arith, (facts h (take (row_length h) xs) pass.0).row_is, length-take (row_length h) xs); later = pass.1 }
