-- `ask` meets its contract: a refusal, or the two values at the opening.
use mathlib.Core.Path.{refl, sym, ap, ◌∙◌}
use Prim.Native.Nat.{◌+◌, ◌≤◌}
use native.Mathlib.Omega.{arith}
use lib.ListN.{length}
use lib.Seq.{length-take-le}
use Rattle.model.specs.declared.Rounding.TheVariants.{Down, Up}
use Rattle.model.proofs.Facts.{facts}
use Rattle.model.proofs.RefusalNumbers.{not_accepted, handed_on}
use Rattle.engine.specs.Answers.{answer_result}
use Rattle.plain_engine.proofs.Theorems.{Taken, taken, terms_lent, bound_lent, refused_is, answered_is, clauses}
use Rattle.plain_engine.proofs.ask.Goals as goal
use Rattle.plain_engine.proofs.ask.Goals.{In_ok-check}

known : (c : In_ok-check) → Taken c.args.ask c.args.row.now
known c = taken c.args.ask c.args.row.now (sym c.in_ok-check.ensures)

-- the row has the chances and the weights
within : (c : In_ok-check) → let a = c.args in a.ask.head.months + a.ask.head.sizes ≤ length a.row.now
within c = omega (arith, (facts _ _ (known c).accepted).row_is)

pub returns-in_err-check : goal.returns-in_err-check
returns-in_err-check c =
    let a = c.args in
    let handed = handed_on _ _ c.from_residual.ensures.1 in
    record {
      answered = ap answer_result handed ∙ refused_is a.ask a.row.now _ c.in_err-check.ensures (not_accepted _ _ refl);
      same = rw handed _;
      encloses = rw handed _;
    }

pub overflow_add-end : goal.overflow_add-end
overflow_add-end c = omega (arith, within (goal.at.overflow_add-end c).In_ok-check)

pub slice_bounds-chances-end : goal.slice_bounds-chances-end
slice_bounds-chances-end c =
    let a = c.args in
    sym (length-take-le a.ask.head.months a.row.now (omega (arith, within (goal.at.slice_bounds-chances-end c).In_ok-check)))

pub offset_bounds-row-months : goal.offset_bounds-row-months
offset_bounds-row-months c = omega (arith, (known (goal.at.offset_bounds-row-months c).In_ok-check).months_few)

pub slice_bounds-severity-end : goal.slice_bounds-severity-end
slice_bounds-severity-end c = omega (arith, within (goal.at.slice_bounds-severity-end c).In_ok-check)

pub opening_value-requires : goal.opening_value-requires
opening_value-requires c = terms_lent _ _ (known (goal.at.opening_value-requires c).In_ok-check)

pub opening_value-requires-2 : goal.opening_value-requires-2
opening_value-requires-2 c = terms_lent _ _ (known (goal.at.opening_value-requires-2 c).In_ok-check)

pub returns : goal.returns
returns c =
    let a = c.args in
    let t = known (goal.at.returns c).In_ok-check in
    let both =
    clauses a.ask a.row.now _
    (answered_is a.ask a.row.now c.opening_value.result c.opening_value-2.result (sym c.in_ok-check.ensures)
    (bound_lent Down a.ask a.row.now t _ c.opening_value.ensures) (bound_lent Up a.ask a.row.now t _ c.opening_value-2.ensures)) in
    record { answered = both.0; same = both.1.0 refl; encloses = both.1.1 refl }
