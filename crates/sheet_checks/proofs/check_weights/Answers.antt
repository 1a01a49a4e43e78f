-- `sheet_checks::check_weights` meets its contract.
use mathlib.Core.Path.{sym, ap, ◌∙◌}
use native.Mathlib.Omega.{arith}
use Rattle.model.specs.Scale.{S}
use Rattle.model.specs.Levels.{largest_level}
use Rattle.model.proofs.Facts.{HeadFacts, head_facts}
use Rattle.sheet_values.specs.Sheet.{sheet_head}
use Rattle.sheet_checks.proofs.CheckLaws.{weights_pass, no_tail, tail_survives, tail_ruins}
use Rattle.sheet_checks.proofs.check_weights.Goals as goal
use Rattle.sheet_checks.proofs.check_weights.Goals.{Start, After-largest_level, else-total-scale-via-then-total-scale+else-sizes-largest_level, else-total-scale-via-else-total-scale}

limits : (c : Start) → HeadFacts (sheet_head c.args.sheet)
limits c = head_facts _ c.requires.0

pub weights_total-total-requires : goal.weights_total-total-requires
unfolding sheet_head
weights_total-total-requires c = (c.requires.1, (head_facts _ c.requires.0).sizes_fit)

pub returns-then-scale-total : goal.returns-then-scale-total
unfolding S
returns-then-scale-total c = sym (weights_pass c.args.sheet (omega (arith, c.weights_total-total.ensures, c.from-scale.ensures, c.if-scale-total.true)))

pub overflow_add-sizes : goal.overflow_add-sizes
unfolding sheet_head
overflow_add-sizes c = omega (arith, (limits (goal.at.overflow_add-sizes c).Start).sizes_fit)

pub largest_level-requires : goal.largest_level-requires
largest_level-requires c = rw c.head_of.ensures (omega (arith, (limits (goal.at.largest_level-requires c).Start).span_fits))

pub returns-then-sizes-largest_level : goal.returns-then-sizes-largest_level
unfolding S sheet_head
returns-then-sizes-largest_level c =
    let sheet = c.args.sheet in
    let level = c.largest_level.ensures ∙ ap (λ h. largest_level h.income h.opening h.months) c.head_of.ensures in
    sym
    (tail_survives sheet
    (omega (arith, c.weights_total-total.ensures, c.from-scale.ensures, c.if-total-scale.true))
    (omega (arith, level, c.if-sizes-largest_level.true)))

pub returns : goal.returns
unfolding S sheet_head
returns c =
    let sheet = c.args.sheet in
    elim c.else-total-scale.branch [
      | else-total-scale-via-then-total-scale+else-sizes-largest_level w ↦
          let level = w.largest_level.ensures ∙ ap (λ h. largest_level h.income h.opening h.months) w.head_of.ensures in
          sym
          (tail_ruins sheet
          (omega (arith, c.weights_total-total.ensures, c.from-scale.ensures, w.if-total-scale.true))
          (omega (arith, level, w.if-sizes-largest_level.false)))
      | else-total-scale-via-else-total-scale w ↦
          sym (no_tail sheet (omega (arith, c.weights_total-total.ensures, c.from-scale.ensures, c.if-scale-total.false, w.if-total-scale.false)))
    ]
