-- The nodes of a small plan's tree. Document 02: "the value at a level in a month asks for the values it needs in the next month". A node is a level after so
-- many months and, for both, the claims left to place.
use Rattle.std.specs.Prelude.{ℕ, zero, suc, ◌+◌, ◌*◌, ◌-◌, min, Bool, ◌&&◌, ◌||◌, List, [], ◌∷◌, eqb, ltb, length, take}
use Rattle.model.specs.declared.Question.{Question}
use Rattle.model.specs.Limits.{small_income}
use Rattle.model.specs.Scale.{S}
use Rattle.model.specs.Sums.{one_to, any}
use Rattle.model.specs.Plan.{Plan, nth}
use Rattle.model.specs.MonthRule.{rule_of, claims_of, opening_allowed}
use Rattle.plain_engine.specs.Steps.{left_after, sizes_followed}

-- the levels that a question does not forbid, after so many months: at the opening, and at the end of a month
unfoldable pub node_allowed : Question → ℕ → ℕ → Bool
node_allowed q zero = opening_allowed q
node_allowed q (suc t) = (rule_of q).allowed

-- Whether a branch of weight above 0 leads from a node with k claims left at level s, in a month with the chance P, to a node that passes a test: "(S − P_t) × S
-- for no claim, P_t × F_x for size x". A claim that ruins leads nowhere, nor does one with none left.
unfoldable pub branches : Question → List ℕ → ℕ → (ℕ → ℕ → Bool) → ℕ → ℕ → Bool
branches q severity P passes k s =
    (ltb 0 ((S - P) * S) && passes k (s + small_income))
    || any (λ x. ltb 0 (P * nth severity x) && passes (left_after ((rule_of q).after_claim k)) (s + small_income - x)) (one_to (sizes_followed ((rule_of q).after_claim k) (min s (length severity))))

-- Whether branches lead through months with these chances, after t months, to the node with `left` claims left at `level`. A node at a forbidden level is led
-- to, and not followed.
unfoldable pub leads : Question → List ℕ → ℕ → List ℕ → ℕ → ℕ → ℕ → ℕ → Bool
leads q severity t [] left level k s = eqb k left && eqb s level
leads q severity t (P ∷ later) left level k s = node_allowed q t s && branches q severity P (leads q severity (suc t) later left level) k s

-- a node of the tree after t months: one that is reached from the opening
unfoldable pub reached : Question → Plan → ℕ → ℕ → ℕ → Bool
reached q p t k s = leads q p.severity 0 (take t p.chances) k s (claims_of q) p.opening
