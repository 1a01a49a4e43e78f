-- `count_claims` meets its contract: the rows of the chances are the count row (CountLaws), and the model's enclosure holds at each place.
use mathlib.Core.Path.{refl, sym, ap, ◌∙◌}
use native.Mathlib.Omega.{arith}
use lib.ListN.{length-take}
use Rattle.model.proofs.Facts.{Facts, facts}
use Rattle.model.proofs.RefusalNumbers.{not_accepted, handed_on}
use Rattle.month_rows.proofs.RowLaws.{chances_parts}
use Rattle.count_row.specs.Answers.{count_result}
use Rattle.count_row.proofs.CountLaws.{chances_are, refused_answer, count_given, count_encloses}
use Rattle.count_row.proofs.count_claims.Goals as goal
use Rattle.count_row.proofs.count_claims.Goals.{In_ok-check_plan}

pub returns-in_err-check_plan : goal.returns-in_err-check_plan
returns-in_err-check_plan c =
    let a = c.args in
    let refused = c.in_err-check_plan.ensures in
    let handed = handed_on _ _ c.from_residual.ensures.1 in
    record { answered = ap count_result handed ∙ refused_answer a.head a.row.now _ refused (not_accepted _ _ refl); encloses = rw handed _ }

fits : (c : In_ok-check_plan) → let a = c.args in Facts a.head a.row.now
fits c = let a = c.args in facts a.head a.row.now (sym c.in_ok-check_plan.ensures)

pub slice_bounds-count_rows-end : goal.slice_bounds-count_rows-end
slice_bounds-count_rows-end c = simp length-take (omega (arith, (fits (goal.at.slice_bounds-count_rows-end c).In_ok-check_plan).row_is))

pub count_rows-requires : goal.count_rows-requires
count_rows-requires c =
    let a = c.args in
    chances_parts a.head a.row.now (fits (goal.at.count_rows-requires c).In_ok-check_plan) a.head.months

pub returns : goal.returns
returns c =
    let a = c.args in
    let are = rw (← chances_are a.head a.row.now) at c.count_rows.ensures in
    let accepted = sym c.in_ok-check_plan.ensures in
    record { answered = count_given a.head a.row.now accepted c.count_rows.result are; encloses = count_encloses a.head a.row.now accepted c.count_rows.result are }
