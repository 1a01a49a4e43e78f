-- The refusal of a plan, test by test: what the function's tests say, put together as the table does.
use Prim.Native.Nat.{ℕ, ◌+◌}
use mathlib.Core.Path.{◌≡◌, sym, ap, ◌∙◌}
use mathlib.Core.Bool.{Bool, true, false, not, ◌&&◌, cond}
use mathlib.Core.List.{List, ◌∷◌}
use native.Mathlib.Omega.{arith}
use lib.Dec.{ltb, eqb}
use lib.ListN.{length, get_or, drop, length-drop}
use lib.Seq.{get_or-drop}
use borrow.Author.Tests.{eq-eqb, ne_eqb}
use Rattle.model.specs.declared.Head.{Head}
use Rattle.model.specs.Scale.{S}
use Rattle.model.specs.Sums.{total, any}
use Rattle.model.specs.Plan.{plan_of, row_length}
use Rattle.model.specs.Levels.{largest_level}
use Rattle.model.specs.Refusal.{first, head_checks, length_check, number_checks, tail_survivable, plan_checks, plan_refusal, HeadAccepted}
use Rattle.model.proofs.Facts.{first_append, head_numbered, horizon_is, sizes_is}
use Rattle.plan.proofs.Rows.{total_last}

-- the tail's test, of a head and a row
abbrev pub survivable : Head → List ℕ → Bool
survivable h row =
    ltb 0 (get_or row (h.months + h.sizes) 0) && ltb (h.sizes + 1) (largest_level h.income h.opening h.months)

module _ (h : Head) (row : List ℕ) where
  -- the weights and the tail are the row after the chances
  weights_are :
      length row ≡ row_length h → total (plan_of h row).severity + (plan_of h row).tail ≡ total (drop h.months row)
  unfolding plan_of
  weights_are row_is =
      ap (λ n. total (plan_of h row).severity + n) (sym (get_or-drop h.months row h.sizes 0))
      ∙ total_last (drop h.months row) h.sizes (simp length-drop (omega arith))

  -- the head's number, if it has one
  pub by_head : (HeadAccepted h → ⊥) → plan_refusal h row ≡ first (head_checks h)
  unfolding plan_refusal plan_checks
  by_head refused = first_append (head_checks h) _ (head_numbered h) ∙ rw (ne_eqb _ 0 refused)

  module _ (head_ok : HeadAccepted h) where
    -- after an accepted head, the row's
    by_row : plan_refusal h row ≡ first (length_check h row ∷ number_checks h row)
    unfolding plan_refusal plan_checks
    by_row = first_append (head_checks h) _ (head_numbered h) ∙ rw (eq-eqb _ 0 head_ok)

    pub by_length : (length row ≡ row_length h → ⊥) → plan_refusal h row ≡ 5
    unfolding first length_check
    by_length differs = by_row ∙ rw (ne_eqb _ _ differs)

    module _ (row_is : length row ≡ row_length h) where
      pub by_numbers : plan_refusal h row ≡ first (number_checks h row)
      unfolding first length_check
      by_numbers = by_row ∙ rw (eq-eqb _ _ row_is)

      pub by_chance : any (ltb S) row ≡ true → plan_refusal h row ≡ 7
      unfolding first number_checks
      by_chance above = by_numbers ∙ rw above

      -- after the chances, the weights and the tail
      pub by_weights :
          any (ltb S) row ≡ false
          → (sum : ℕ)
          → sum ≡ total (drop h.months row)
          → plan_refusal h row
          ≡ cond (not (eqb sum S)) 8 (cond (survivable h row) 9 0)
      unfolding first number_checks tail_survivable plan_of
      by_weights within sum sum_is_lem =
          by_numbers ∙ rw (within, horizon_is h row row_is, sizes_is h row row_is, weights_are row_is, sum_is_lem)

      module _ (within : any (ltb S) row ≡ false) (sum : ℕ) (summed : sum ≡ total (drop h.months row)) where
        pub by_sum : (sum ≡ S → ⊥) → plan_refusal h row ≡ 8
        by_sum differs = by_weights within sum summed ∙ rw (ne_eqb sum S differs)

        -- the tail decides
        pub by_tail : sum ≡ S → plan_refusal h row ≡ cond (survivable h row) 9 0
        by_tail adds = by_weights within sum summed ∙ rw (eq-eqb sum S adds)
