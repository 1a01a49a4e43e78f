-- `least` meets its contract: refused, or searched in the parts that it lends (`Theorems`).
use Prim.Native.Nat.{◌*◌, ◌≤◌}
use mathlib.Core.Path.{◌≡◌, refl, sym, ap, ◌∙◌}
use native.Mathlib.Omega.{arith}
use lib.ListN.{length, length-take}
use lib.Seq.{length-take-le}
use Rattle.model.specs.Levels.{row_levels}
use Rattle.model.specs.Refusal.{survival_workspace}
use Rattle.model.proofs.Facts.{Facts, facts, accepted_head}
use Rattle.questions.proofs.RefusalLaws.{Asked}
use Rattle.engine.proofs.AnswerLaws.{terms_lent}
use Rattle.opening_search.specs.Refusal.{target_outside, target_refusal}
use Rattle.opening_search.specs.Answers.{least_result}
use Rattle.model.proofs.RefusalNumbers.{not_accepted, handed_on}
use Rattle.model.proofs.MemoryLaws.{untouched, cleared_is}
use Rattle.survival.proofs.Theorems.{needed_is}
use Rattle.opening_search.proofs.Theorems.{known, refused_result, search_is, lent_is, target_inside, result_clauses}
use Rattle.opening_search.proofs.least.Goals as goal
use Rattle.opening_search.proofs.least.Goals.{After-row_levels-needed, In_ok-check}

pub returns-in_err-check : goal.returns-in_err-check
returns-in_err-check c =
    let a = c.args in
    let refused = c.in_err-check.ensures in
    let answered = ap least_result (handed_on _ _ c.from_residual.ensures.1) ∙ refused_result a.head a.row.now a.target (length a.workspace.now) _ refused in
    let cleared = untouched _ _ (survival_workspace a.head) a.workspace.now refused (not_accepted _ _ refl) in
    let both = result_clauses a.head a.row.now a.target a.workspace.now a.workspace.now c.from_residual.result answered cleared in
    record { answered = answered; cleared = cleared; least = both.0; none = both.1.0; encloses = both.1.1 }

-- what is known where no check fits
none_fits : (c : In_ok-check) → let a = c.args in target_refusal a.head a.row.now a.target (length a.workspace.now) ≡ 0
none_fits c = sym c.in_ok-check.ensures

asked : (c : In_ok-check) → let a = c.args in Asked a.head a.row.now (target_outside a.target) (survival_workspace a.head) (length a.workspace.now)
asked c = let a = c.args in known a.head a.row.now a.target (length a.workspace.now) (none_fits c)

fits : (c : In_ok-check) → let a = c.args in Facts a.head a.row.now
fits c = let a = c.args in facts a.head a.row.now (asked c).accepted

pub overflow_add-end : goal.overflow_add-end
overflow_add-end c = omega (arith, (fits (goal.at.overflow_add-end c).In_ok-check).row_is)

pub row_levels-needed-requires : goal.row_levels-needed-requires
row_levels-needed-requires c = accepted_head _ _ (asked (goal.at.row_levels-needed-requires c).In_ok-check).accepted

-- the workspace has room for what is needed
enough : (c : After-row_levels-needed) → 2 * c.row_levels-needed.result ≤ length c.args.workspace.now
enough c =
    let a = c.args in
    let asked = known a.head a.row.now a.target (length a.workspace.now) (sym c.in_ok-check.ensures) in
    omega (arith, asked.enough, needed_is a.head c.row_levels-needed.result c.row_levels-needed.ensures)

pub overflow_mul-needed : goal.overflow_mul-needed
overflow_mul-needed c = omega (arith, enough (goal.at.overflow_mul-needed c).After-row_levels-needed)

pub slice_bounds-search-end : goal.slice_bounds-search-end
slice_bounds-search-end c = enough (goal.at.slice_bounds-search-end c).After-row_levels-needed

pub slice_bounds-search-end-2 : goal.slice_bounds-search-end-2
slice_bounds-search-end-2 c = sym (length-take-le _ _ (enough (goal.at.slice_bounds-search-end-2 c).After-row_levels-needed))

pub slice_bounds-search-end-3 : goal.slice_bounds-search-end-3
slice_bounds-search-end-3 c = simp length-take (omega (arith, (fits (goal.at.slice_bounds-search-end-3 c).In_ok-check).row_is))

pub offset_bounds-row-months : goal.offset_bounds-row-months
offset_bounds-row-months c = omega (arith, (fits (goal.at.offset_bounds-row-months c).In_ok-check).head.months_fit)

pub slice_bounds-search-end-4 : goal.slice_bounds-search-end-4
slice_bounds-search-end-4 c = omega (arith, (fits (goal.at.slice_bounds-search-end-4 c).In_ok-check).row_is)

pub search-requires : goal.search-requires
search-requires c =
    let at-levels = (goal.at.search-requires c).After-row_levels-needed in
    let else1 = (goal.at.search-requires c).In_ok-check in
    let a = c.args in
    let needed = c.row_levels-needed in
    let months = length-take-le a.head.months a.row.now (omega (arith, (fits else1).row_is)) in
    record {
      income_nonzero = (
        (fits else1).head.income_some,
        length-take-le (2 * needed.result) a.workspace.now (enough at-levels)
            ∙ ap (λ n. 2 * n) (needed.ensures ∙ ap (λ n. row_levels a.head.income a.head.opening n) (sym months)),
      );
      plan_terms = terms_lent a.head a.row.now (fits else1) a.head.months;
      target_nonzero = target_inside a.target (asked else1).inside;
    }

pub returns : goal.returns
returns c =
    let at-levels = (goal.at.returns c).After-row_levels-needed in
    let else1 = (goal.at.returns c).In_ok-check in
    let a = c.args in
    let h = a.head in
    let row = a.row.now in
    let needed = c.row_levels-needed in
    let answered = lent_is h row a.target (least_result c.search.result) c.search.ensures.answered ∙ search_is h row a.target (length a.workspace.now) (none_fits else1) in
    let cleared =
    cleared_is _ (2 * needed.result) (survival_workspace h) a.workspace.now c.search.new.workspace (none_fits else1)
    (needed_is h needed.result needed.ensures) (enough at-levels) c.search.ensures.cleared in
    let both = result_clauses h row a.target a.workspace.now _ c.search.result answered cleared in
    record { answered = answered; cleared = cleared; least = both.0; none = both.1.0; encloses = both.1.1 }
