-- `work_out` meets its contract: the parts lent are the plan's numbers and both halves of the rows (`AnswerLaws`).
use mathlib.Core.Path.{ap, ◌∙◌}
use mathlib.Core.List.{◌++◌}
use Prim.Native.Nat.{◌*◌}
use native.Mathlib.Omega.{arith}
use lib.ListN.{drop, replicate, length-take}
use lib.Seq.{length-take-le}
use Rattle.model.specs.declared.Rounding.TheVariants.{Down, Up}
use Rattle.model.proofs.Facts.{Facts, facts}
use Rattle.month_rows.specs.Shapes.{rows_size}
use Rattle.engine.proofs.AnswerLaws.{terms_lent, levels_fit, last_lent, value_lent}
use Rattle.engine.proofs.answers.work_out.Goals as goal
use Rattle.engine.proofs.answers.work_out.Goals.{Start}

known : (c : Start) → Facts c.args.head c.args.row.now
known c = facts c.args.head c.args.row.now c.requires.accepted

pub overflow_add-end : goal.overflow_add-end
overflow_add-end c = omega (arith, known (goal.at.overflow_add-end c).Start)

pub slice_bounds-bounds_from-end : goal.slice_bounds-bounds_from-end
slice_bounds-bounds_from-end c = omega (arith, c.requires.workable.enough)

pub slice_bounds-bounds_from-end-2 : goal.slice_bounds-bounds_from-end-2
slice_bounds-bounds_from-end-2 c = simp length-take (omega (arith, c.requires.workable.enough))

pub slice_bounds-bounds_from-end-3 : goal.slice_bounds-bounds_from-end-3
slice_bounds-bounds_from-end-3 c = simp length-take (omega (arith, (known (goal.at.slice_bounds-bounds_from-end-3 c).Start).row_is, c.requires.workable.within))

pub offset_bounds-row-first : goal.offset_bounds-row-first
offset_bounds-row-first c = omega (arith, (known (goal.at.offset_bounds-row-first c).Start).head.months_fit)

pub slice_bounds-bounds_from-end-4 : goal.slice_bounds-bounds_from-end-4
slice_bounds-bounds_from-end-4 c = omega (arith, (known (goal.at.slice_bounds-bounds_from-end-4 c).Start).row_is)

pub offset_bounds-row-end : goal.offset_bounds-row-end
offset_bounds-row-end c = omega (arith, (known (goal.at.offset_bounds-row-end c).Start).row_is)

pub bounds-row-end : goal.bounds-row-end
bounds-row-end c = omega (arith, (known (goal.at.bounds-row-end c).Start).row_is)

pub bounds_from-requires : goal.bounds_from-requires
bounds_from-requires c =
    let facts = known (goal.at.bounds_from-requires c).Start in
    let a = c.args in
    let w = c.requires.workable in
    record {
      workspace_len = (
        length-take-le (2 * rows_size a.shape) a.workspace.now w.enough,
        rw w.earns (levels_fit a.head a.row.now facts.row_is a.months a.shape.width w.within w.wide),
      );
      income_nonzero = (rw w.earns facts.head.income_some, rw w.earns facts.head.income_fits);
      plan_terms = terms_lent a.head a.row.now facts a.months;
      last_fits = last_lent a.last a.shape a.head a.row.now c.requires.last_fits;
    }

pub returns : goal.returns
returns c =
    let call = c.bounds_from in
    let a = c.args in
    let w = c.requires.workable in
    let count = length-take-le (2 * rows_size a.shape) a.workspace.now w.enough in
    record {
      lower = value_lent Down a.head a.row.now a.months a.shape w.earns a.last call.result.lower w.within call.ensures.lower;
      upper = value_lent Up a.head a.row.now a.months a.shape w.earns a.last call.result.upper w.within call.ensures.upper;
      cleared = ap (λ front. front ++ drop (2 * rows_size a.shape) a.workspace.now) (call.ensures.cleared ∙ ap (λ n. replicate n 0) count);
    }
