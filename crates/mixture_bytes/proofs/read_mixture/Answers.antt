-- `read_mixture` meets its contract: what is told before the plans, what they are refused with, or the mixture that the bytes hold (`MixtureLaws`).
use Prim.Native.Nat.{◌≤◌}
use mathlib.Core.Path.{◌≡◌, refl, sym, ◌∙◌}
use native.Mathlib.Omega.{arith}
use lib.ListN.{length, length-take, length-drop}
use lib.Seq.{length-take-le}
use Rattle.std.proofs.lemmas.Result.{IfOk-from_err}
use Rattle.model.proofs.RefusalNumbers.{not_accepted, passed_on}
use Rattle.mixture_bytes.specs.Format.{count_in}
use Rattle.mixture_bytes.proofs.MixtureLaws.{Counted, count_known, refused_early, refused_plan, lent_inside, number_as, read_as}
use Rattle.mixture_bytes.proofs.read_mixture.Goals as goal
use Rattle.mixture_bytes.proofs.read_mixture.Goals.{After-from-count, After-read_weights-weights, In_ok-check_count, In_ok-plans}

-- what is known of the count
known : (c : In_ok-check_count) → Counted c.args.bytes.now
known c = count_known _ (sym c.in_ok-check_count.ensures)

count_is : (c : After-from-count) → c.from-count.result ≡ count_in c.args.bytes.now
count_is c = c.from-count.ensures

pub returns-in_err-check_count : goal.returns-in_err-check_count
returns-in_err-check_count c =
    record {
      number = passed_on _ _ c.from_residual.ensures.1 ∙ refused_early _ _ c.in_err-check_count.ensures (not_accepted _ _ refl);
      read = IfOk-from_err _ _ c.from_residual.ensures.0;
    }

pub bounds-bytes-0 : goal.bounds-bytes-0
bounds-bytes-0 c = omega (arith, (known (goal.at.bounds-bytes-0 c).In_ok-check_count).enough)

pub slice_bounds-read_plans-count : goal.slice_bounds-read_plans-count
slice_bounds-read_plans-count c =
    omega (arith, count_is (goal.at.slice_bounds-read_plans-count c).After-from-count, (known (goal.at.slice_bounds-read_plans-count c).In_ok-check_count).enough)

pub slice_bounds-read_plans-start : goal.slice_bounds-read_plans-start
slice_bounds-read_plans-start c =
    omega (arith, count_is (goal.at.slice_bounds-read_plans-start c).After-from-count, (known (goal.at.slice_bounds-read_plans-start c).In_ok-check_count).enough)

pub read_plans-requires : goal.read_plans-requires
read_plans-requires c =
    let k = known (goal.at.read_plans-requires c).In_ok-check_count in
    let is = count_is (goal.at.read_plans-requires c).After-from-count in
    record { count_nonzero = (omega (arith, is, k.some), omega (arith, is, k.few)); row_len = sym c.blank-row.ensures.sized }

pub returns-in_err-plans : goal.returns-in_err-plans
returns-in_err-plans c =
    let from = c.from_residual-in_err-plans in
    record {
      number =
          passed_on _ _ from.ensures.1
          ∙ refused_plan _ (sym c.in_ok-check_count.ensures) _ (count_is (goal.at.returns-in_err-plans c).After-from-count) _ c.in_err-plans.ensures.number (not_accepted _ _ refl);
      read = IfOk-from_err _ _ from.ensures.0;
    }

pub slice_bounds-read_weights-count : goal.slice_bounds-read_weights-count
slice_bounds-read_weights-count c = omega (arith, (known (goal.at.slice_bounds-read_weights-count c).In_ok-check_count).enough)

pub slice_bounds-read_weights-start : goal.slice_bounds-read_weights-start
slice_bounds-read_weights-start c = omega (arith, (known (goal.at.slice_bounds-read_weights-start c).In_ok-check_count).enough)

pub read_weights-weights-requires : goal.read_weights-weights-requires
read_weights-weights-requires c =
    let k = known (goal.at.read_weights-weights-requires c).In_ok-check_count in
    let is = count_is (goal.at.read_weights-weights-requires c).After-from-count in
    (omega (arith, is, k.few), simp (length-take, length-drop) (omega (arith, is, k.enough)))

-- what the plans take of the row lies in it
inside : (c : After-read_weights-weights) → c.in_ok-plans.plans.used ≤ length c.read_plans.new.row
inside c =
    let p = c.in_ok-plans in
    lent_inside _ (sym c.in_ok-check_count.ensures) _ c.from-count.ensures _ p.ensures.number refl _ _ p.ensures.read _ _
    c.blank-row.ensures.sized p.ensures.memory c.read_plans.auto.row _ c.read_weights-weights.ensures.read c.read_weights-weights.ensures.sized

pub slice_bounds-row-end : goal.slice_bounds-row-end
slice_bounds-row-end c = inside (goal.at.slice_bounds-row-end c).After-read_weights-weights

pub slice_bounds-check_mixture-end : goal.slice_bounds-check_mixture-end
slice_bounds-check_mixture-end c = sym (length-take-le _ _ (inside (goal.at.slice_bounds-check_mixture-end c).After-read_weights-weights))

pub returns-in_err-check_mixture : goal.returns-in_err-check_mixture
returns-in_err-check_mixture c =
    let p = c.in_ok-plans in
    let from = c.from_residual-in_err-check_mixture in
    record {
      number =
          passed_on _ _ from.ensures.1
          ∙ number_as _ (sym c.in_ok-check_count.ensures) _ (count_is (goal.at.returns-in_err-check_mixture c).After-from-count) _ p.ensures.number refl _ _ p.ensures.read _ _
          c.blank-row.ensures.sized p.ensures.memory c.read_plans.auto.row _ c.read_weights-weights.ensures.read c.read_weights-weights.ensures.sized _
          c.in_err-check_mixture.ensures;
      read = IfOk-from_err _ _ from.ensures.0;
    }

pub returns : goal.returns
returns c =
    let p = c.in_ok-plans in
    let none = sym c.in_ok-check_count.ensures in
    let counted = count_is (goal.at.returns c).After-from-count in
    let weights = c.read_weights-weights.ensures in
    let both = read_as _ none _ counted _ p.ensures.number refl _ _ p.ensures.read _ _ c.blank-row.ensures.sized p.ensures.memory c.read_plans.auto.row _ weights.read weights.sized _
    c.in_ok-check_mixture.ensures in
    record { number = both.0; read = both.1 refl }
