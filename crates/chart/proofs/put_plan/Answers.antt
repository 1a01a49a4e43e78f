-- `chart::put_plan` meets its contract: the call refuses nothing here, and its pairs give the plan's lines.
use mathlib.Core.Path.{◌≡◌, sym, ap, ◌∙◌}
use native.Mathlib.Nat.{mul-le-mul_right}
use native.Mathlib.Omega.{arith}
use lib.ListN.{length, take}
use Rattle.model.specs.Refusal.{plan_refusal}
use Rattle.model.proofs.Facts.{facts, head_facts, accepted_head}
use Rattle.survival.specs.Openings.{openings_refusal}
use Rattle.survival.proofs.Theorems.{workspace_suffices, bounds_suffice, unrefused}
use Rattle.report_lines.specs.Lines.{line_room}
use Rattle.chart.proofs.Laws.{unrefused_ok, lines_are}
use Rattle.chart.proofs.put_plan.Goals as goal
use Rattle.chart.proofs.put_plan.Goals.{After-blank-bounds}

pub row_length-used-requires : goal.row_length-used-requires
row_length-used-requires c = accepted_head _ _ c.requires.accepted

pub slice_bounds-all_openings-end : goal.slice_bounds-all_openings-end
slice_bounds-all_openings-end c = rw c.row_length-used.ensures (sym (facts _ _ c.requires.accepted).row_is)

-- the row that is lent is the plan's, and the memory that is lent suffices
nothing_refused : (c : After-blank-bounds) → openings_refusal c.args.head (take c.row_length-used.result c.args.row.now) (length c.blank-workspace.result) (length c.blank-bounds.result) ≡ 0
nothing_refused c =
    let a = c.args in
    let of_head = accepted_head _ _ c.requires.accepted in
    unrefused a.head (take c.row_length-used.result a.row.now) (length c.blank-workspace.result) (length c.blank-bounds.result)
    (record {
      accepted = ap (λ n. plan_refusal a.head (take n a.row.now)) c.row_length-used.ensures ∙ c.requires.accepted;
      enough = omega (arith, workspace_suffices a.head of_head, c.blank-workspace.ensures.sized);
      wide = omega (arith, bounds_suffice a.head of_head, c.blank-bounds.ensures.sized);
    })

pub unwrap-requires : goal.unwrap-requires
unwrap-requires c =
    unrefused_ok _ (c.all_openings.ensures.answered ∙ nothing_refused (goal.at.unwrap-requires c).After-blank-bounds)

pub put_lines-requires : goal.put_lines-requires
put_lines-requires c =
    let of_head = accepted_head _ _ c.requires.accepted in
    record {
      opening_in_bounds = omega (arith, bounds_suffice c.args.head of_head, c.blank-bounds.ensures.sized, c.all_openings.auto);
      line_room_in_bounds = omega (arith, c.requires.text_room_in_bounds, mul-le-mul_right line_room (head_facts c.args.head of_head).opening_fits);
    }

pub returns : goal.returns
returns c =
    rw (← c.row_length-used.ensures, ← lines_are c.args.head (take c.row_length-used.result c.args.row.now) c.blank-workspace.result c.blank-bounds.result _ c.all_openings.ensures.filled (nothing_refused (goal.at.returns c).After-blank-bounds))
    c.put_lines.ensures
