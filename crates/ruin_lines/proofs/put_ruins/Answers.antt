use mathlib.Core.Path.{◌≡◌}
use mathlib.Core.Bool.{false}
use Prim.Native.Nat.{◌+◌}
use native.Mathlib.Omega.{arith}
use borrow.Author.Rules.{rules}
use Rattle.model.specs.declared.Question.TheVariants.{Survive}
use Rattle.model.specs.Refusal.{month_outside}
use Rattle.questions.proofs.RefusalLaws.{inside_month}
use Rattle.text.proofs.TextLaws.{line_fits}
use Rattle.report_lines.specs.Asking.{Answerable, question_needs}
use Rattle.report_lines.proofs.AskingLaws.{cleared_all, cleared_long, answerable_still, ruined_clears}
use Rattle.ruin_lines.proofs.RuinLaws.{ruining_start, ruining_turn, ruining_room, ruins_small, ruins_done}
use Rattle.ruin_lines.proofs.put_ruins.Goals as goal
use Rattle.ruin_lines.proofs.put_ruins.Goals.{In-loop-i, At-loop-i}

pub loop-i-init : goal.loop-i-init
loop-i-init c = ruining_start _ _ _ _ _ _ (search rules)

-- the month of a turn is one of the plan's
month_inside : (c : In-loop-i) → month_outside c.args.head (c.loop-i.i + 1) ≡ false
month_inside c = inside_month _ _ (omega arith) (omega (arith, c.loop-i-test.true))

answerable : (c : At-loop-i) → Answerable c.args.head c.args.row.now c.loop-i.workspace
answerable c = answerable_still c.requires.answerable c.loop-i.invariant.left

pub put_ruin-lines-requires : goal.put_ruin-lines-requires
put_ruin-lines-requires c =
    let so_far = c.loop-i.invariant in
    let small = ruins_small c.args.head c.args.row.now c.requires.answerable.accepted c.loop-i.i so_far.text_so_far.turns in record { answerable = answerable (goal.at.put_ruin-lines-requires c).At-loop-i; month_value = month_inside (goal.at.put_ruin-lines-requires c).In-loop-i; line_room_in_bounds = (ruining_room so_far c.requires.line_room_in_bounds, rw so_far.lower_so_far small.0, rw so_far.upper_so_far small.1) }

pub loop-i-preserved : goal.loop-i-preserved
loop-i-preserved c =
    let call = c.put_ruin-lines in
    ruining_turn c.loop-i.invariant (omega (arith, c.loop-i-test.true)) call.auto.text call.ensures.written call.ensures.summed
    (ruined_clears (answerable (goal.at.loop-i-preserved c).At-loop-i) (c.loop-i.i + 1) (month_inside (goal.at.loop-i-preserved c).In-loop-i) call.ensures.cleared)

pub put_line-requires : goal.put_line-requires
put_line-requires c = line_fits _ _ _ _ (omega (arith, ruining_room c.loop-i.invariant c.requires.line_room_in_bounds))

pub shape_of-workspace : goal.shape_of-workspace
shape_of-workspace c = cleared_long c.requires.answerable.room c.loop-i.invariant.left

pub returns : goal.returns
returns c =
    let all : c.loop-i.i ≡ c.args.head.months =
    omega (arith, c.loop-i-test.false, c.loop-i.invariant.text_so_far.turns) in record {
      written = ruins_done c.args.head c.args.row.now c.requires.answerable.accepted c.loop-i.invariant
          (omega (arith, c.loop-i-test.false)) c.put_line.ensures;
      cleared = cleared_all (λ _. question_needs c.args.head Survive) all c.loop-i.invariant.left;
    }
