-- `upper_at` meets its contract: the row is taken back to the opening and read there.
use mathlib.Core.Path.{◌≡◌, refl, ap, ◌∙◌}
use native.Mathlib.Nat.{le_refl}
use native.Mathlib.Omega.{arith}
use lib.ListN.{length, replicate}
use Rattle.model.specs.declared.Rounding.TheVariants.{Up}
use Rattle.model.specs.Scale.{S}
use Rattle.model.specs.Refusal.{outside}
use Rattle.model.proofs.LevelLaws.{level_from}
use Rattle.month_rule.proofs.HalfLaws.{parts_replicate}
use Rattle.target_rows.specs.Rows.{Walk}
use Rattle.target_rows.proofs.WalkLaws.{back_of, rows_in, width_of}
use Rattle.target_rows.proofs.rows.upper_at.Goals as goal
use Rattle.target_rows.proofs.rows.upper_at.Goals.{After-fill, Start}

pub shape_of-shape-requires : goal.shape_of-shape-requires
unfolding outside
shape_of-shape-requires c = refl

walk : (c : Start) → Walk (length c.args.row.now) c.args.income c.args.opening c.args.chances.now
walk c = c.requires

last_row : (c : After-fill) → c.fill.new.self ≡ replicate (length c.args.row.now) S
unfolding S
last_row c = c.fill.ensures.after (λ y e. e)

pub all_months_back-requires : goal.all_months_back-requires
all_months_back-requires c =
    let shape = c.shape_of-shape in
    let width = length c.args.row.now in record { rows_in = rows_in shape.result width c.args.income c.fill.new.self shape.ensures (walk (goal.at.all_months_back-requires c).Start).earns c.fill.auto.self (rw (last_row (goal.at.all_months_back-requires c).After-fill) (parts_replicate width S (le_refl S))); chances_bound = width_of shape.result width c.args.income c.args.opening _ shape.ensures (walk (goal.at.all_months_back-requires c).Start).inside; chances_fit = (walk (goal.at.all_months_back-requires c).Start).chances_fit }

pub value_at-upper-requires : goal.value_at-upper-requires
value_at-upper-requires c =
    let a = c.args in
    (le_refl a.opening, omega (arith, (walk (goal.at.value_at-upper-requires c).Start).inside, level_from a.income a.opening a.opening (length a.chances.now) (le_refl a.opening), c.all_months_back.auto.rows, c.fill.auto.self))

pub returns : goal.returns
returns c =
    let a = c.args in
    let width = length a.row.now in record {
      upper = c.value_at-upper.ensures
          ∙ back_of Up a.income a.table.now.severity.now a.chances.now width a.opening c.shape_of-shape.result c.fill.new.self c.all_months_back.new.rows
          c.shape_of-shape.ensures (last_row (goal.at.returns c).After-fill) (walk (goal.at.returns c).Start).inside c.all_months_back.ensures.values a.opening (le_refl a.opening);
      cleared = c.fill-2.ensures.after (λ y e. e) ∙ ap (λ n. replicate n 0) (c.all_months_back.auto.rows ∙ c.fill.auto.self);
    }
