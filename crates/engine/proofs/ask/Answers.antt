-- `ask` meets its contract. A refusal: the answer and the workspace by definition. An answer: each bound is 0 where the opening is forbidden, and the month
-- rule's value by the question's shape where it is not (`AnswerLaws`); the model's enclosure holds of the two values.
use mathlib.Core.Path.{◌≡◌, sym, ap, ◌∙◌}
use mathlib.Core.Bool.{true, false}
use Prim.Native.Nat.{◌*◌, ◌<◌}
use native.Mathlib.Omega.{arith}
use lib.ListN.{length}
use Rattle.model.specs.declared.Rounding.{Rounding}
use Rattle.model.specs.declared.Rounding.TheVariants.{Down, Up}
use Rattle.model.specs.Plan.{plan_of}
use Rattle.model.specs.Levels.{row_levels}
use Rattle.model.specs.MonthRule.{opening_allowed}
use Rattle.model.specs.Bounds.{bound, EnclosesQuestion}
use Rattle.model.specs.Refusal.{outside, workspace_needed, ask_refusal}
use Rattle.model.proofs.RefusalNumbers.{handed_on}
use Rattle.model.proofs.Facts.{facts, accepted_head}
use Rattle.model.proofs.Rooms.{rows_few}
use Rattle.model.proofs.Theorems.{enclosure}
use Rattle.month_rows.specs.Shapes.{rows_size}
use Rattle.engine.specs.Answers.{answer}
use Rattle.engine.specs.declared.bounds.LastRows.TheVariants.{Placed}
use Rattle.engine.specs.LastRows.{LastFits, opening_value}
use Rattle.questions.proofs.RefusalLaws.{Asked, asked}
use Rattle.questions.proofs.ShapeLaws.{shape_rows, shape_width, shape_income}
use Rattle.engine.proofs.AnswerLaws.{refused_out, answered_out, needed_halves, bound_is, bound_none}
use Rattle.engine.proofs.ask.Goals as goal
use Rattle.engine.proofs.ask.Goals.{After-shape_of-shape, In_ok-check_ask, Then-not-opening_allowed}

pub returns-in_err-check_ask : goal.returns-in_err-check_ask
unfolding answer
returns-in_err-check_ask c =
    let a = c.args in
    let out = refused_out (EnclosesQuestion (plan_of a.ask.head a.row.now) a.ask.question) _ _ _ (workspace_needed a.ask) _ _ a.workspace.now
    (handed_on _ _ c.from_residual.ensures.1) c.in_err-check_ask.ensures in
    record { answered = out.0; cleared = out.1.0; encloses = out.1.1 }

known : (c : In_ok-check_ask) → let a = c.args in Asked a.ask.head a.row.now (outside a.ask.question) (workspace_needed a.ask) (length a.workspace.now)
known c = asked _ _ 10 _ _ _ (omega arith) (sym c.in_ok-check_ask.ensures)

none-refused : (c : In_ok-check_ask) → let a = c.args in ask_refusal a.ask a.row.now (length a.workspace.now) ≡ 0
none-refused c = sym c.in_ok-check_ask.ensures

pub workspace_needed-requires : goal.workspace_needed-requires
workspace_needed-requires c = let known = known (goal.at.workspace_needed-requires c).In_ok-check_ask in record { head_accepted = accepted_head _ _ known.accepted; question_value = known.inside }

pub none_allowed-requires : goal.none_allowed-requires
none_allowed-requires c =
    omega (arith, c.workspace_needed.ensures, (known (goal.at.none_allowed-requires c).In_ok-check_ask).enough)

-- both bounds are 0 where the opening is forbidden
no_bound : (c : Then-not-opening_allowed) (round : Rounding) → let a = c.args in 0 ≡ bound round (plan_of a.ask.head a.row.now) a.ask.question
no_bound c round =
    let a = c.args in
    let forbids : opening_allowed a.ask.question a.ask.head.opening ≡ false = sym c.opening_allowed.ensures ∙ c.if-not-opening_allowed.true in
    bound_none round a.ask.head a.row.now a.ask.question forbids

pub returns-then-not-opening_allowed : goal.returns-then-not-opening_allowed
unfolding answer
returns-then-not-opening_allowed c =
    let call = c.none_allowed in
    let needed = c.workspace_needed in
    let a = c.args in let both = answered_out (EnclosesQuestion (plan_of a.ask.head a.row.now) a.ask.question) call.result _ needed.result (workspace_needed a.ask) a.workspace.now _ (none-refused (goal.at.returns-then-not-opening_allowed c).In_ok-check_ask)
    (call.ensures.answered.0 ∙ no_bound (goal.at.returns-then-not-opening_allowed c).Then-not-opening_allowed Down) (call.ensures.answered.1 ∙ no_bound (goal.at.returns-then-not-opening_allowed c).Then-not-opening_allowed Up) call.ensures.cleared needed.ensures
    (enclosure a.ask.head a.row.now (known (goal.at.returns-then-not-opening_allowed c).In_ok-check_ask).accepted a.ask.question) in record { answered = both.0; cleared = both.1.0; encloses = both.1.1 }

pub row_levels-requires : goal.row_levels-requires
row_levels-requires c = accepted_head _ _ (known (goal.at.row_levels-requires c).In_ok-check_ask).accepted

pub shape_of-shape-requires : goal.shape_of-shape-requires
shape_of-shape-requires c = (known (goal.at.shape_of-shape-requires c).In_ok-check_ask).inside

width_is : (c : After-shape_of-shape) → let a = c.args in c.shape_of-shape.result.width ≡ row_levels a.ask.head.income a.ask.head.opening a.ask.head.months
width_is c =
    ap (λ s. s.width) c.shape_of-shape.ensures ∙ shape_width c.args.ask.question c.row_levels.result _ ∙ c.row_levels.ensures

income-is : (c : After-shape_of-shape) → c.shape_of-shape.result.income ≡ c.args.ask.head.income
income-is c = ap (λ s. s.income) c.shape_of-shape.ensures ∙ shape_income c.args.ask.question c.row_levels.result _

needed_is : (c : After-shape_of-shape) → 2 * rows_size c.shape_of-shape.result ≡ workspace_needed c.args.ask
needed_is c =
    let width = c.row_levels in
    ap (λ s. 2 * rows_size s) c.shape_of-shape.ensures ∙ needed_halves c.args.ask width.result width.ensures

rows-some : (c : After-shape_of-shape) → 0 < c.shape_of-shape.result.rows
rows-some c =
    let a = c.args in
    let q = a.ask.question in
    let known = asked _ _ 10 _ _ _ (omega arith) (sym c.in_ok-check_ask.ensures) in
    omega (
      arith,
      ap (λ s. s.rows) c.shape_of-shape.ensures ∙ shape_rows q c.row_levels.result _,
      rows_few q known.inside,
    )

-- the value of the work, in either rounding, is that of the question
bound_of : (c : After-shape_of-shape) (round : Rounding) → let a = c.args in let p = plan_of a.ask.head a.row.now in opening_value round p a.ask.head.months c.shape_of-shape.result Placed ≡ bound round p a.ask.question
bound_of c round =
    let a = c.args in
    let h = a.ask.head in
    let width = c.row_levels in
    let known = asked _ _ 10 _ _ _ (omega arith) (sym c.in_ok-check_ask.ensures) in
    let row_is = (facts h a.row.now known.accepted).row_is in
    let allows : opening_allowed a.ask.question h.opening ≡ true = sym c.opening_allowed.ensures ∙ c.if-not-opening_allowed.false in
    ap (λ s. opening_value round (plan_of h a.row.now) h.months s Placed) c.shape_of-shape.ensures
    ∙ bound_is round h a.row.now row_is a.ask.question known.inside allows width.result width.ensures

pub work_out-requires : goal.work_out-requires
unfolding LastFits
work_out-requires c =
    let known = known (goal.at.work_out-requires c).In_ok-check_ask in record { accepted = known.accepted; workable = record { wide = width_is (goal.at.work_out-requires c).After-shape_of-shape; earns = income-is (goal.at.work_out-requires c).After-shape_of-shape; within = omega arith; enough = omega (arith, needed_is (goal.at.work_out-requires c).After-shape_of-shape, known.enough) }; last_fits = rows-some (goal.at.work_out-requires c).After-shape_of-shape }

pub returns : goal.returns
unfolding answer
returns c =
    let call = c.work_out in
    let a = c.args in let both = answered_out (EnclosesQuestion (plan_of a.ask.head a.row.now) a.ask.question) call.result _ (2 * rows_size c.shape_of-shape.result) (workspace_needed a.ask) a.workspace.now _ (none-refused (goal.at.returns c).In_ok-check_ask)
    (call.ensures.lower ∙ bound_of (goal.at.returns c).After-shape_of-shape Down) (call.ensures.upper ∙ bound_of (goal.at.returns c).After-shape_of-shape Up) call.ensures.cleared (needed_is (goal.at.returns c).After-shape_of-shape)
    (enclosure a.ask.head a.row.now (known (goal.at.returns c).In_ok-check_ask).accepted a.ask.question) in record { answered = both.0; cleared = both.1.0; encloses = both.1.1 }
