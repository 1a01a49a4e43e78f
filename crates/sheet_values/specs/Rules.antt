-- The plan that a rule sheet makes (document 02, Job 4).
use Rattle.std.specs.Prelude.{ℕ, zero, suc, ◌-◌, List, [], ◌∷◌, ◌++◌, map, pos, Float}
use Rattle.std.specs.Float.{binary64}
use Rattle.std.specs.Float.Ieee.{of_int, add, sub, mul}
use Rattle.model.specs.Scale.{S}
use Rattle.model.specs.Sums.{one_to, total}
use Rattle.doubles.specs.Doubles.{one, parts}
use Rattle.sheet_values.specs.declared.ChanceRule.{ChanceRule}
use Rattle.sheet_values.specs.declared.ChanceRule.TheVariants.{Level, Ramp}
use Rattle.sheet_values.specs.declared.RuleSheet.{RuleSheet}

-- n times over
unfoldable pub repeated : ℕ → (Float → Float) → Float → Float
repeated zero f x = x
repeated (suc n) f x = f (repeated n f x)

-- "The ramp's chance in month i is first + (i − 1) × step, each operation rounded once."
unfoldable pub chance : ChanceRule → ℕ → Float
chance (Level first) i = first
chance (Ramp first step) i = add binary64 first (mul binary64 (of_int binary64 (pos (i - 1))) step)

-- "The claim weights start from 1 − alpha for size 1 and are multiplied by alpha for each next size, one rounding each": "the geometric claim of source
-- document 003"
unfoldable pub weight : Float → ℕ → Float
weight alpha x = repeated (x - 1) (λ w. mul binary64 w alpha) (sub binary64 one alpha)

-- the chances of months 1 to n, and the weights of sizes 1 to m, each turned into parts of S
unfoldable pub chances : ChanceRule → ℕ → List ℕ
chances rule n = map (λ i. parts (chance rule i)) (one_to n)

unfoldable pub weights : Float → ℕ → List ℕ
weights alpha m = map (λ x. parts (weight alpha x)) (one_to m)

-- "over is what is missing to S": the tail, as in a plan
unfoldable pub tail : Float → ℕ → ℕ
tail alpha m = S - total (weights alpha m)

-- the weights of m sizes, and the tail
unfoldable pub size_part : Float → ℕ → List ℕ
size_part alpha m = weights alpha m ++ tail alpha m ∷ []

-- the plan's row: "chances, weights, over"
unfoldable pub sheet_row : RuleSheet → List ℕ
sheet_row s = chances s.rule s.months ++ size_part s.alpha s.sizes
