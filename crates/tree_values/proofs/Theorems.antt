-- What the lines of a node say together: its value follows from the numbers on them, their weights add up to S, and the first node has the plan's bounds.
use Prim.Native.Nat.{ℕ, zero, suc, ◌+◌, ◌*◌, ◌-◌}
use mathlib.Core.Path.{◌≡◌}
use mathlib.Core.Bool.{true}
use mathlib.Core.List.{List, [], ◌∷◌}
use native.Mathlib.Nat.{mul-one}
use native.Mathlib.Omega.{arith}
use lib.ListN.{drop}
use Rattle.model.specs.declared.Head.{Head}
use Rattle.model.specs.declared.Question.{Question}
use Rattle.model.specs.declared.Rounding.{Rounding}
use Rattle.model.specs.Limits.{small_income}
use Rattle.model.specs.Scale.{S, quotient}
use Rattle.model.specs.Sums.{total}
use Rattle.model.specs.Plan.{plan_of}
use Rattle.model.specs.MonthRule.{Row, claim_sum, exact_month, month, kept, claimed_row, month_back, values, rule_of, claims_of, ruin_weight}
use Rattle.model.specs.FilledSizes.{filled_sum}
use Rattle.model.specs.Bounds.{bound}
use Rattle.model.specs.Refusal.{Accepted}
use Rattle.model.proofs.Month.{claim_sum_ground, claim_sum_none, claim_sum_cons}
use Rattle.model.proofs.FilledLaws.{filled_sum_is}
use Rattle.model.proofs.Theorems.{weights_add}
use Rattle.plain_engine.proofs.Theorems.{bound_is}
use Rattle.tree_nodes.specs.Nodes.{node_allowed}
use Rattle.tree_values.specs.Lines.{node_value}

-- the values on the claim lines of a node, by the level that a claim leads to: 0 with none left
abbrev pub claimed_value : Rounding → Question → List ℕ → ℕ → List ℕ → ℕ → Row
claimed_value round q F t later k = claimed_row (λ j. node_value round q F (suc t) later j) ((rule_of q).after_claim k)

-- A node's value, where it is followed, is the exact quotient by S × S of the values on the lines below it, rounded once: what a person needs to work it out again.
-- The filled sum is over the sizes that have a line.
pub value_follows :
    (round : Rounding) (q : Question) (F : List ℕ) (t P : ℕ) (later : List ℕ) (k s : ℕ) → node_allowed q t s ≡ true →
    node_value round q F t (P ∷ later) k s
    ≡ quotient round ((S - P) * S * node_value round q F (suc t) later k (s + small_income) + P * filled_sum F (claimed_value round q F t later k) (s + small_income)) (S * S)
unfolding node_value node_allowed kept values month_back month exact_month
value_follows round q F t P later k s allowed = rw (allowed, filled_sum_is F (claimed_value round q F t later k) (s + small_income))

-- the weights of the sizes up to a level, and of those above it
first_weights : (F : List ℕ) (s : ℕ) → claim_sum F (λ _. 1) (s + small_income) + total (drop s F) ≡ total F
unfolding total
first_weights F zero = omega (arith, claim_sum_ground F (λ _. 1) (0 + small_income) (omega arith))
first_weights [] (suc s) = omega (arith, claim_sum_none (λ _. 1) (suc s + small_income))
first_weights (f ∷ F) (suc s) =
    let one : suc s + small_income ≡ suc (suc s) = omega arith in
    let rest : s + small_income ≡ suc s = omega arith in
    rw one (omega (arith, claim_sum_cons f F (λ _. 1) s, rw rest at (first_weights F s), mul-one f))

-- The weights of a node's claim lines, and what ruins, are all claims.
pub lines_weigh :
    (h : Head) (row : List ℕ) → Accepted h row → (s : ℕ) →
    filled_sum (plan_of h row).severity (λ _. 1) (s + small_income) + ruin_weight (plan_of h row).severity (plan_of h row).tail (s + small_income) ≡ S
unfolding ruin_weight
lines_weigh h row accepted s =
    let F = (plan_of h row).severity in
    let below : s + small_income - 1 ≡ s = omega arith in
    rw (filled_sum_is F (λ _. 1) (s + small_income), below)
    (omega (arith, first_weights F s, weights_add h row accepted))

-- The first node has the two bounds of the question.
pub first_node :
    (round : Rounding) (h : Head) (row : List ℕ) → h.income ≡ small_income → (q : Question) →
    node_value round q (plan_of h row).severity 0 (plan_of h row).chances (claims_of q) h.opening ≡ bound round (plan_of h row) q
unfolding node_value node_allowed
first_node round h row earns q = bound_is round h row earns q
