-- Laws of the rows of survival: a plan's bounds at each opening are one row, and so is what the months leave in memory.
use Prim.Native.Nat.{ℕ, ◌-◌, ◌≤◌, ◌<◌}
use mathlib.Core.Path.{◌≡◌, refl, sym, ◌∙◌}
use mathlib.Core.List.{List}
use native.Mathlib.Nat.{zero-mul, one-mul}
use native.Mathlib.Omega.{arith}
use lib.ListN.{length}
use Rattle.model.specs.declared.Head.{Head}
use Rattle.model.specs.declared.Rounding.{Rounding}
use Rattle.model.specs.declared.Question.TheVariants.{Survive}
use Rattle.model.specs.Plan.{plan_of, opened}
use Rattle.model.specs.Levels.{largest_level}
use Rattle.model.specs.MonthRule.{month, opening_allowed, all_placed, last_of}
use Rattle.model.specs.Bounds.{bound}
use Rattle.model.proofs.LevelLaws.{level_from}
use Rattle.model.proofs.Opening.{value_allowed}
use Rattle.claims.specs.Values.{from_top}
use Rattle.month_rows.specs.declared.rows.Shape.{Shape}
use Rattle.month_rows.specs.Shapes.{rows_size, values_in}
use Rattle.month_rule.specs.Months.{TakenBack}
use Rattle.questions.specs.Needs.{shape_of}
use Rattle.questions.proofs.ShapeLaws.{shape_value, last_agree}
use Rattle.questions.specs.Survival.{survival_row}

-- the bounds of the plan with another opening are V_0 there
pub bound_at :
    (round : Rounding) (h : Head) (row : List ℕ) (v : ℕ) →
    bound round (plan_of (opened h v) row) Survive ≡ survival_row round h.income (plan_of h row).severity (plan_of h row).chances v
unfolding bound plan_of opening_allowed
bound_at round h row v = value_allowed (month round h.income (plan_of h row).severity) (plan_of (opened h v) row) Survive refl

-- the one row of survival, as wide as it is asked to be, with the income asked
pub record OneRow (shape : Shape) (width income : ℕ) : Type 0 where
  pub some : 0 < shape.rows
  pub earns : shape.income ≡ income
  pub size : rows_size shape ≡ width
  pub wide : shape.width ≡ width

pub one_row : (shape : Shape) (width income : ℕ) → shape ≡ shape_of Survive width income → OneRow shape width income
unfolding shape_of
one_row shape width income e = rw e (record { some = omega arith; earns = refl; size = one-mul width; wide = refl })

-- the row in memory, from a last row that is S at each level through the months, is that of survival
pub back_is :
    (round : Rounding) (income : ℕ) (F Ps : List ℕ) (width level : ℕ) (shape : Shape) (last row : List ℕ) → shape ≡ shape_of Survive width income →
    largest_level income level (length Ps) < width →
    ((k : ℕ) → k < shape.rows → (s : ℕ) → values_in shape (largest_level income level (length Ps)) last k s ≡ all_placed k s) →
    TakenBack round F shape level Ps last row → (s : ℕ) → s ≤ level → from_top level row s ≡ survival_row round income F Ps s
unfolding shape_of
back_is round income F Ps width level shape last row es inside placed back s l =
    rw zero-mul at ((rw es at back).each 0 (omega arith) s l)
    ∙ shape_value round income F Ps Survive s (width - 1) width (omega arith) (omega (arith, level_from income s level (length Ps) l)) (omega arith) _ (last_of Survive)
    (λ j m r. last_agree Survive width income j m r ∙ sym ((rw es at placed) j m r))
