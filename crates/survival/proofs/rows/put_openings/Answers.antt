-- `put_openings` meets its contract: each half is a row of survival (`back_is`), and the pairs are of these.
use Prim.Native.Nat.{ℕ, ◌+◌, ◌*◌, ◌<◌}
use mathlib.Core.Path.{◌≡◌, refl, sym, ap, ◌∙◌}
use mathlib.Core.List.{List}
use native.Mathlib.Omega.{arith}
use lib.ListN.{length, replicate}
use Rattle.model.specs.declared.Rounding.{Rounding}
use Rattle.model.specs.declared.Rounding.TheVariants.{Down, Up}
use Rattle.model.specs.Levels.{largest_level}
use Rattle.model.specs.MonthRule.{all_placed}
use Rattle.model.specs.Refusal.{outside}
use Rattle.claims.specs.Values.{from_top}
use Rattle.month_rows.specs.Shapes.{values_in}
use Rattle.month_rule.specs.Months.{HalvesIn, TakenBack}
use Rattle.questions.specs.Survival.{survival_row}
use Rattle.survival.proofs.PairLaws.{pairs_agree}
use Rattle.questions.proofs.SurvivalLaws.{OneRow, one_row, back_is}
use Rattle.survival.proofs.rows.put_openings.Goals as goal
use Rattle.survival.proofs.rows.put_openings.Goals.{After-halves_back, After-shape_of-shape, Start}

record Halves (half opening levels room : ℕ) : Type 0 where
  opening-inside : opening < half
  levels-inside : levels < half
  whole : room ≡ 2 * half

halves : (c : Start) → let a = c.args in Halves (c.args.opening + c.args.income * length c.args.chances.now + 1) a.opening (largest_level a.income a.opening (length a.chances.now)) (length a.workspace.now)
unfolding largest_level
halves c = record { opening-inside = omega arith; levels-inside = omega arith; whole = c.requires.income_nonzero.1 }

pub overflow_mul-half : goal.overflow_mul-half
overflow_mul-half c = omega (arith, (halves (goal.at.overflow_mul-half c).Start).whole)

pub overflow_add-half : goal.overflow_add-half
overflow_add-half c = omega (arith, (halves (goal.at.overflow_add-half c).Start).whole)

pub overflow_add-half-2 : goal.overflow_add-half-2
overflow_add-half-2 c = omega (arith, (halves (goal.at.overflow_add-half-2 c).Start).whole)

pub shape_of-shape-requires : goal.shape_of-shape-requires
unfolding outside
shape_of-shape-requires c = refl

one : (c : After-shape_of-shape) → OneRow c.shape_of-shape.result (c.args.opening + c.args.income * length c.args.chances.now + 1) c.args.income
one c = one_row c.shape_of-shape.result (c.args.opening + c.args.income * length c.args.chances.now + 1) c.args.income c.shape_of-shape.ensures

pub last_halves-requires : goal.last_halves-requires
last_halves-requires c =
    ((one (goal.at.last_halves-requires c).After-shape_of-shape).some, (halves (goal.at.last_halves-requires c).Start).whole ∙ ap (λ n. 2 * n) (sym (one (goal.at.last_halves-requires c).After-shape_of-shape).size))

pub halves_back-requires : goal.halves_back-requires
halves_back-requires c =
    let rows : HalvesIn c.shape_of-shape.result c.last_halves.new.halves =
    record { some = (one (goal.at.halves_back-requires c).After-shape_of-shape).some; income_some = rw (one (goal.at.halves_back-requires c).After-shape_of-shape).earns c.requires.income_nonzero.0; size = c.last_halves.auto.halves ∙ (halves (goal.at.halves_back-requires c).Start).whole ∙ ap (λ n. 2 * n) (sym (one (goal.at.halves_back-requires c).After-shape_of-shape).size); parts = c.last_halves.ensures.parts } in record { halves_in = rows; chances_bound = rw (one (goal.at.halves_back-requires c).After-shape_of-shape).earns (omega (arith, (halves (goal.at.halves_back-requires c).Start).levels-inside, (one (goal.at.halves_back-requires c).After-shape_of-shape).wide)); plan_terms = c.requires.plan_terms }

-- the workspace after the walk is as long as it was
still : (c : After-halves_back) → length c.halves_back.new.halves ≡ 2 * (c.args.opening + c.args.income * length c.args.chances.now + 1)
unfolding largest_level
still c = c.halves_back.auto.halves ∙ c.last_halves.auto.halves ∙ (let halves : let a = c.args in Halves (c.args.opening + c.args.income * length c.args.chances.now + 1) a.opening (largest_level a.income a.opening (length a.chances.now)) (length a.workspace.now) = record { opening-inside = omega arith; levels-inside = omega arith; whole = c.requires.income_nonzero.1 } in halves).whole

pub put_pairs-requires : goal.put_pairs-requires
put_pairs-requires c = record { pairs_len = c.requires.bounds_len; top_lt_half = ((halves (goal.at.put_pairs-requires c).Start).opening-inside, still (goal.at.put_pairs-requires c).After-halves_back) }

-- a half after the walk is the row of survival, rounded its way
half_is : (c : After-halves_back) → let a = c.args in let top = largest_level a.income a.opening (length a.chances.now) in (round : Rounding) (last row : List ℕ) → ((k : ℕ) → k < c.shape_of-shape.result.rows → (s : ℕ) → values_in c.shape_of-shape.result top last k s ≡ all_placed k s) → TakenBack round a.severity.now c.shape_of-shape.result a.opening a.chances.now last row → (v : ℕ) → v < a.opening + 1 → from_top a.opening row v ≡ survival_row round a.income a.severity.now a.chances.now v
unfolding largest_level
half_is c round last row all-S back v l =
    let a = c.args in
    back_is round a.income a.severity.now a.chances.now (c.args.opening + c.args.income * length c.args.chances.now + 1) a.opening c.shape_of-shape.result last row c.shape_of-shape.ensures
    (let halves : let a = c.args in Halves (c.args.opening + c.args.income * length c.args.chances.now + 1) a.opening (largest_level a.income a.opening (length a.chances.now)) (length a.workspace.now) = record { opening-inside = omega arith; levels-inside = omega arith; whole = c.requires.income_nonzero.1 } in halves).levels-inside all-S back v (omega arith)

pub returns : goal.returns
returns c =
    let last = c.last_halves in
    let a = c.args in
    let top = largest_level a.income a.opening (length a.chances.now) in
    let inside : top < c.shape_of-shape.result.width = omega (arith, (halves (goal.at.returns c).Start).levels-inside, (one (goal.at.returns c).After-shape_of-shape).wide) in record {
      put = c.put_pairs.ensures
          ∙ pairs_agree (a.opening + 1) _ _ _ _
          (rw (one (goal.at.returns c).After-shape_of-shape).size at (half_is (goal.at.returns c).After-halves_back Down _ _ (last.ensures.lower top inside) c.halves_back.ensures.lower))
          (rw (one (goal.at.returns c).After-shape_of-shape).size at (half_is (goal.at.returns c).After-halves_back Up _ _ (last.ensures.upper top inside) c.halves_back.ensures.upper));
      cleared = c.fill.ensures.after (λ y e. e) ∙ ap (λ n. replicate n 0) (c.halves_back.auto.halves ∙ last.auto.halves);
    }
