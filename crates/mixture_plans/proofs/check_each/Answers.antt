use mathlib.Core.Path.{refl, sym, ◌∙◌}
use native.Mathlib.Omega.{arith}
use Rattle.model.proofs.RefusalNumbers.{not_accepted, passed_on}
use Rattle.mixture_plans.proofs.RowLaws.{checking_head, checking_refused, checking_more, checking_done}
use Rattle.mixture_plans.proofs.check_each.Goals as goal

pub returns-in_err-check_head : goal.returns-in_err-check_head
returns-in_err-check_head c =
    let l = c.loop-i in
    let refused = c.in_err-check_head.ensures in
    passed_on _ _ c.from_residual.ensures.1
    ∙ checking_head _ _ _ (omega (arith, l.invariant)) _ _ l.invariant.1.1 _ c.loop-i-test.true _ refused (not_accepted _ _ refl)

pub returns-in_err-check_plan : goal.returns-in_err-check_plan
returns-in_err-check_plan c =
    let l = c.loop-i in
    let refused = c.in_err-check_plan.ensures in
    passed_on _ _ c.from_residual-in_err-check_plan.ensures.1
    ∙ checking_refused _ _ _ (omega (arith, l.invariant)) _ _ l.invariant.1.1 _ c.loop-i-test.true _ refl _ c.row_end-end.ensures _ refused (not_accepted _ _ refl)

pub loop-i-preserved : goal.loop-i-preserved
loop-i-preserved c =
    let l = c.loop-i in (
      l.invariant.0,
      (
        l.invariant.1.0,
        checking_more _ _ _ (omega (arith, l.invariant)) _ _ l.invariant.1.1 _ c.loop-i-test.true _ refl _ c.row_end-end.ensures (sym c.in_ok-check_plan.ensures),
      ),
    )

pub returns : goal.returns
returns c =
    checking_done _ _ _ (omega (arith, c.loop-i.invariant)) _ _ c.loop-i.invariant.1.1 c.loop-i-test.false
