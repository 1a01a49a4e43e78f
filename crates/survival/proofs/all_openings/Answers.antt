-- `all_openings` meets its contract: refused, or put in the parts that it lends (`Theorems`).
use Prim.Native.Nat.{◌+◌, ◌*◌, ◌≤◌}
use mathlib.Core.Path.{◌≡◌, refl, sym, ap, ◌∙◌}
use native.Mathlib.Omega.{arith}
use lib.ListN.{length, length-take}
use lib.Seq.{length-take-le}
use Rattle.model.specs.Levels.{row_levels}
use Rattle.model.specs.Refusal.{survival_workspace}
use Rattle.model.proofs.RefusalNumbers.{not_accepted, passed_on}
use Rattle.model.proofs.Facts.{Facts, facts, accepted_head}
use Rattle.engine.proofs.AnswerLaws.{terms_lent}
use Rattle.survival.specs.Openings.{openings_refusal}
use Rattle.survival.proofs.Theorems.{needed_is, Fillable, fillable, bounds_are, unfilled, filled_is, clauses}
use Rattle.model.proofs.MemoryLaws.{untouched, cleared_is}
use Rattle.survival.proofs.all_openings.Goals as goal
use Rattle.survival.proofs.all_openings.Goals.{After-row_levels-needed, In_ok-check}

pub returns-in_err-check : goal.returns-in_err-check
returns-in_err-check c =
    let a = c.args in
    let refused = c.in_err-check.ensures in
    let out = clauses a.head a.row.now a.workspace.now a.workspace.now a.bounds.now a.bounds.now _ (passed_on _ _ c.from_residual.ensures.1 ∙ refused)
    (unfilled a.head a.row.now a.bounds.now (length a.workspace.now) _ refused (not_accepted _ _ refl))
    (untouched _ _ (survival_workspace a.head) a.workspace.now refused (not_accepted _ _ refl)) in
    record { answered = out.0; filled = out.1.0; cleared = out.1.1.0; asked = out.1.1.1.0; encloses = out.1.1.1.1 }

-- what is known where no check fits
none_fits : (c : In_ok-check) → let a = c.args in openings_refusal a.head a.row.now (length a.workspace.now) (length a.bounds.now) ≡ 0
none_fits c = sym c.in_ok-check.ensures

known : (c : In_ok-check) → let a = c.args in Fillable a.head a.row.now (length a.workspace.now) (length a.bounds.now)
known c = fillable _ _ _ _ (none_fits c)

fits : (c : In_ok-check) → let a = c.args in Facts a.head a.row.now
fits c = facts _ _ (known c).accepted

pub overflow_add-end : goal.overflow_add-end
overflow_add-end c = omega (arith, (fits (goal.at.overflow_add-end c).In_ok-check).row_is)

pub row_levels-needed-requires : goal.row_levels-needed-requires
row_levels-needed-requires c = accepted_head _ _ (known (goal.at.row_levels-needed-requires c).In_ok-check).accepted

-- the workspace has room for what is needed
enough : (c : After-row_levels-needed) → 2 * c.row_levels-needed.result ≤ length c.args.workspace.now
enough c =
    omega (arith, (fillable _ _ _ _ (sym c.in_ok-check.ensures)).enough, needed_is c.args.head c.row_levels-needed.result c.row_levels-needed.ensures)

pub overflow_mul-needed : goal.overflow_mul-needed
overflow_mul-needed c = omega (arith, enough (goal.at.overflow_mul-needed c).After-row_levels-needed)

pub overflow_add-places : goal.overflow_add-places
overflow_add-places c = omega (arith, (fits (goal.at.overflow_add-places c).In_ok-check).head.opening_fits)

pub overflow_mul-places : goal.overflow_mul-places
overflow_mul-places c = omega (arith, (fits (goal.at.overflow_mul-places c).In_ok-check).head.opening_fits)

pub slice_bounds-put_openings-end : goal.slice_bounds-put_openings-end
slice_bounds-put_openings-end c = omega (arith, (known (goal.at.slice_bounds-put_openings-end c).In_ok-check).wide)

pub slice_bounds-put_openings-end-2 : goal.slice_bounds-put_openings-end-2
slice_bounds-put_openings-end-2 c = sym (length-take-le _ _ (known (goal.at.slice_bounds-put_openings-end-2 c).In_ok-check).wide)

pub slice_bounds-put_openings-end-3 : goal.slice_bounds-put_openings-end-3
slice_bounds-put_openings-end-3 c = enough (goal.at.slice_bounds-put_openings-end-3 c).After-row_levels-needed

pub slice_bounds-put_openings-end-4 : goal.slice_bounds-put_openings-end-4
slice_bounds-put_openings-end-4 c = sym (length-take-le _ _ (enough (goal.at.slice_bounds-put_openings-end-4 c).After-row_levels-needed))

pub slice_bounds-put_openings-end-5 : goal.slice_bounds-put_openings-end-5
slice_bounds-put_openings-end-5 c = simp length-take (omega (arith, (fits (goal.at.slice_bounds-put_openings-end-5 c).In_ok-check).row_is))

pub offset_bounds-row-months : goal.offset_bounds-row-months
offset_bounds-row-months c = omega (arith, (fits (goal.at.offset_bounds-row-months c).In_ok-check).head.months_fit)

pub slice_bounds-put_openings-end-6 : goal.slice_bounds-put_openings-end-6
slice_bounds-put_openings-end-6 c = omega (arith, (fits (goal.at.slice_bounds-put_openings-end-6 c).In_ok-check).row_is)

pub put_openings-requires : goal.put_openings-requires
put_openings-requires c =
    let a = c.args in
    let months = length-take-le a.head.months a.row.now (omega (arith, (fits (goal.at.put_openings-requires c).In_ok-check).row_is)) in record {
      bounds_len = length-take-le (2 * (a.head.opening + 1)) a.bounds.now (known (goal.at.put_openings-requires c).In_ok-check).wide;
      income_nonzero = (
        (fits (goal.at.put_openings-requires c).In_ok-check).head.income_some,
        length-take-le (2 * c.row_levels-needed.result) a.workspace.now (enough (goal.at.put_openings-requires c).After-row_levels-needed)
            ∙ ap (λ n. 2 * n) (c.row_levels-needed.ensures ∙ ap (λ n. row_levels a.head.income a.head.opening n) (sym months)),
      );
      plan_terms = terms_lent a.head a.row.now (fits (goal.at.put_openings-requires c).In_ok-check) a.head.months;
    }

pub returns : goal.returns
returns c =
    let a = c.args in
    let h = a.head in
    let row = a.row.now in let both = clauses h row a.workspace.now _ a.bounds.now _ 0 (sym (none_fits (goal.at.returns c).In_ok-check))
    (filled_is h row a.bounds.now c.put_openings.new.bounds (length a.workspace.now) (2 * (h.opening + 1)) (none_fits (goal.at.returns c).In_ok-check) refl
    (c.put_openings.ensures.put ∙ bounds_are h row))
    (cleared_is _ (2 * c.row_levels-needed.result) (survival_workspace h) a.workspace.now c.put_openings.new.workspace (none_fits (goal.at.returns c).In_ok-check)
    (needed_is h c.row_levels-needed.result c.row_levels-needed.ensures) (enough (goal.at.returns c).After-row_levels-needed) c.put_openings.ensures.cleared) in record { answered = both.0; filled = both.1.0; cleared = both.1.1.0; asked = both.1.1.1.0; encloses = both.1.1.1.1 }
