-- `ruin_in_month` meets its contract, as `ask` does: the months before are worked from the row before the month.
use mathlib.Core.Path.{◌≡◌, refl, sym, ap, ◌∙◌}
use Prim.Native.Nat.{◌*◌, ◌-◌, ◌<◌, ◌≤◌}
use native.Mathlib.Omega.{arith}
use lib.ListN.{length, get_or}
use Rattle.model.specs.declared.Question.TheVariants.{Survive}
use Rattle.model.specs.declared.Rounding.{Rounding}
use Rattle.model.specs.declared.Rounding.TheVariants.{Down, Up}
use Rattle.model.specs.Plan.{plan_of}
use Rattle.model.specs.Levels.{row_levels}
use Rattle.model.specs.Bounds.{ruin_bound, EnclosesRuin}
use Rattle.model.specs.Refusal.{outside, month_outside, survival_workspace}
use Rattle.model.proofs.RefusalNumbers.{handed_on}
use Rattle.model.proofs.Facts.{Facts, facts, accepted_head, horizon_is}
use Rattle.model.proofs.Theorems.{ruin_enclosure}
use Rattle.month_rows.specs.Shapes.{rows_size}
use Rattle.engine.specs.declared.bounds.LastRows.TheVariants.{Ruin}
use Rattle.engine.specs.Answers.{ruin_answer}
use Rattle.engine.specs.LastRows.{opening_value}
use Rattle.questions.proofs.RefusalLaws.{Asked, asked, month_inside}
use Rattle.questions.proofs.ShapeLaws.{shape_width, shape_income}
use Rattle.engine.proofs.AnswerLaws.{refused_out, answered_out, needed_halves, ruin_bound_is, ruin_fits}
use Rattle.engine.proofs.ruin_in_month.Goals as goal
use Rattle.engine.proofs.ruin_in_month.Goals.{After-shape_of-shape, In_ok-check_ruin}

pub returns-in_err-check_ruin : goal.returns-in_err-check_ruin
unfolding ruin_answer
returns-in_err-check_ruin c =
    let a = c.args in
    let out = refused_out (EnclosesRuin (plan_of a.head a.row.now) a.month) _ _ _ (survival_workspace a.head) _ _ a.workspace.now
    (handed_on _ _ c.from_residual.ensures.1) c.in_err-check_ruin.ensures in
    record { answered = out.0; cleared = out.1.0; encloses = out.1.1 }

known : (c : In_ok-check_ruin) → let a = c.args in Asked a.head a.row.now (month_outside a.head a.month) (survival_workspace a.head) (length a.workspace.now)
known c = asked _ _ 10 _ _ _ (omega arith) (sym c.in_ok-check_ruin.ensures)

-- the month is one of the plan's, which the row has
inside : (c : In_ok-check_ruin) → let a = c.args in (0 < a.month) × (a.month ≤ a.head.months)
inside c = month_inside _ _ (known c).inside

fits : (c : In_ok-check_ruin) → let a = c.args in Facts a.head a.row.now
fits c = facts _ _ (known c).accepted

pub row_levels-requires : goal.row_levels-requires
row_levels-requires c = accepted_head _ _ (known (goal.at.row_levels-requires c).In_ok-check_ruin).accepted

pub shape_of-shape-requires : goal.shape_of-shape-requires
unfolding outside
shape_of-shape-requires c = refl

pub overflow_sub-earlier : goal.overflow_sub-earlier
overflow_sub-earlier c = omega (arith, inside (goal.at.overflow_sub-earlier c).In_ok-check_ruin)

pub offset_bounds-row-earlier : goal.offset_bounds-row-earlier
offset_bounds-row-earlier c = omega (arith, inside (goal.at.offset_bounds-row-earlier c).In_ok-check_ruin, (fits (goal.at.offset_bounds-row-earlier c).In_ok-check_ruin).head.months_fit)

pub bounds-row-earlier : goal.bounds-row-earlier
bounds-row-earlier c = omega (arith, inside (goal.at.bounds-row-earlier c).In_ok-check_ruin, (fits (goal.at.bounds-row-earlier c).In_ok-check_ruin).row_is)

width_is : (c : After-shape_of-shape) → let a = c.args in c.shape_of-shape.result.width ≡ row_levels a.head.income a.head.opening a.head.months
width_is c = ap (λ s. s.width) c.shape_of-shape.ensures ∙ shape_width Survive c.row_levels.result _ ∙ c.row_levels.ensures

income-is : (c : After-shape_of-shape) → c.shape_of-shape.result.income ≡ c.args.head.income
income-is c = ap (λ s. s.income) c.shape_of-shape.ensures ∙ shape_income Survive c.row_levels.result _

needed_is : (c : After-shape_of-shape) → 2 * rows_size c.shape_of-shape.result ≡ survival_workspace c.args.head
needed_is c =
    let width = c.row_levels in
    ap (λ s. 2 * rows_size s) c.shape_of-shape.ensures
    ∙ needed_halves (record { head = c.args.head; question = Survive }) width.result width.ensures

-- the value of the work, in either rounding, is that of the ruin
bound_of : (c : After-shape_of-shape) (round : Rounding) → let a = c.args in let p = plan_of a.head a.row.now in opening_value round p (a.month - 1) c.shape_of-shape.result (Ruin (get_or a.row.now (a.month - 1) 0)) ≡ ruin_bound round p a.month
bound_of c round =
    let a = c.args in
    let width = c.row_levels in
    let known = asked a.head a.row.now 10 _ _ _ (omega arith) (sym c.in_ok-check_ruin.ensures) in
    let inside = month_inside _ _ known.inside in
    ap (λ s. opening_value round (plan_of a.head a.row.now) (a.month - 1) s (Ruin (get_or a.row.now (a.month - 1) 0))) c.shape_of-shape.ensures
    ∙ ruin_bound_is round a.head a.row.now (facts _ _ known.accepted).row_is a.month inside.0 inside.1 width.result width.ensures _ refl

pub work_out-requires : goal.work_out-requires
work_out-requires c =
    let shape = c.shape_of-shape in
    let a = c.args in record { accepted = (known (goal.at.work_out-requires c).In_ok-check_ruin).accepted; workable = record { wide = width_is (goal.at.work_out-requires c).After-shape_of-shape; earns = income-is (goal.at.work_out-requires c).After-shape_of-shape; within = omega (arith, inside (goal.at.work_out-requires c).In_ok-check_ruin); enough = omega (arith, needed_is (goal.at.work_out-requires c).After-shape_of-shape, (known (goal.at.work_out-requires c).In_ok-check_ruin).enough) }; last_fits = ruin_fits a.head a.row.now (fits (goal.at.work_out-requires c).In_ok-check_ruin) (a.month - 1) shape.result c.row_levels.result _ shape.ensures }

pub returns : goal.returns
unfolding ruin_answer
returns c =
    let call = c.work_out in
    let a = c.args in
    let h = a.head in
    let row = a.row.now in let both = answered_out (EnclosesRuin (plan_of h row) a.month) call.result _ (2 * rows_size c.shape_of-shape.result) (survival_workspace h) a.workspace.now _
    (sym c.in_ok-check_ruin.ensures) (call.ensures.lower ∙ bound_of (goal.at.returns c).After-shape_of-shape Down) (call.ensures.upper ∙ bound_of (goal.at.returns c).After-shape_of-shape Up) call.ensures.cleared
    (needed_is (goal.at.returns c).After-shape_of-shape)
    (ruin_enclosure h row (known (goal.at.returns c).In_ok-check_ruin).accepted a.month (inside (goal.at.returns c).In_ok-check_ruin).0 (rw (horizon_is h row (fits (goal.at.returns c).In_ok-check_ruin).row_is) (inside (goal.at.returns c).In_ok-check_ruin).1)) in record { answered = both.0; cleared = both.1.0; encloses = both.1.1 }
