-- The lines of a node of a small plan's tree: the node with its value, and below it what its value follows from, from the definitions of the model alone.
use Rattle.std.specs.Prelude.{ℕ, suc, ◌+◌, ◌-◌, min, Bool, cond, List, [], ◌∷◌, ◌++◌, ltb, length}
use Rattle.std.proofs.Math.Option.{Option, none, some}
use Rattle.model.specs.declared.Rounding.{Rounding}
use Rattle.model.specs.declared.Rounding.TheVariants.{Down, Up}
use Rattle.model.specs.declared.Question.{Question}
use Rattle.model.specs.declared.Question.TheVariants.{Survive, Both, High, Low}
use Rattle.model.specs.declared.Bounds.{Bounds}
use Rattle.model.specs.Limits.{small_income}
use Rattle.model.specs.Plan.{nth}
use Rattle.model.specs.MonthRule.{kept, month, values, rule_of, last_of, ruin_weight}
use Rattle.text.specs.Text.{ascii, joined, entry, line}
use Rattle.tree_nodes.specs.Nodes.{node_allowed}

-- the value of the node with k claims left at level s after t months, with these chances to come: 0 where the question forbids the level
unfoldable pub node_value : Rounding → Question → List ℕ → ℕ → List ℕ → ℕ → ℕ → ℕ
node_value round q severity t chances k s = kept (node_allowed q t) (values (month round small_income severity) (rule_of q) (last_of q) chances k) s

abbrev pub node_bounds : Question → List ℕ → ℕ → List ℕ → ℕ → ℕ → Bounds
node_bounds q severity t chances k s = record { lower = node_value Down q severity t chances k s; upper = node_value Up q severity t chances k s }

-- the claims left to place, which both alone counts
unfoldable pub left_text : Question → ℕ → List ℕ
left_text Survive k = []
left_text (Both j) k = entry (ascii " left") (k ∷ [])
left_text (High L) k = []
left_text (Low L) k = []

-- after a word, the level of a node, its claims left, whether it is forbidden, and its value
unfoldable pub place_text : List ℕ → Question → ℕ → ℕ → Bool → Bounds → List ℕ
place_text word q k s allowed b =
    entry word (s ∷ []) ++ left_text q k ++ line (cond allowed [] (ascii " forbidden")) (b.lower ∷ b.upper ∷ [])

unfoldable pub value_text : List ℕ → Question → List ℕ → ℕ → List ℕ → ℕ → ℕ → List ℕ
value_text word q severity t chances k s = place_text word q k s (node_allowed q t s) (node_bounds q severity t chances k s)

-- what a claim leads to: "a claim with none left adds 0"
unfoldable pub claimed_text : Question → List ℕ → ℕ → List ℕ → Option ℕ → ℕ → List ℕ
claimed_text q severity t later none s = line (ascii " none left") (0 ∷ 0 ∷ [])
claimed_text q severity t later (some k) s = value_text (ascii " level") q severity t later k s

-- the line of a claim of size x, if the size is filled: its weight, and what it leads to from a node with k claims left at level s
unfoldable pub claim_text : Question → List ℕ → ℕ → List ℕ → ℕ → ℕ → ℕ → List ℕ
claim_text q severity t later k s x =
    cond (ltb 0 (nth severity x))
    (entry (ascii "  claim") (x ∷ []) ++ entry (ascii " weight") (nth severity x ∷ []) ++ claimed_text q severity (suc t) later ((rule_of q).after_claim k) (s + small_income - x))
    []

-- the lines of all sizes that do not ruin
abbrev pub claim_each : Question → List ℕ → ℕ → List ℕ → ℕ → ℕ → ℕ → List ℕ
claim_each q severity t later k s i = claim_text q severity t later k s (suc i)

abbrev pub claim_texts : Question → List ℕ → ℕ → List ℕ → ℕ → ℕ → List ℕ
claim_texts q severity t later k s = joined (min s (length severity)) (claim_each q severity t later k s)

-- What the value of a node follows from, where a month is to come: the month's chance, the branch without a claim, those of the sizes that do not ruin, and the
-- weight of what ruins, over included.
unfoldable pub branch_texts : Question → List ℕ → ℕ → ℕ → List ℕ → ℕ → ℕ → List ℕ
branch_texts q severity tail t [] k s = []
branch_texts q severity tail t (P ∷ later) k s =
    line (ascii "  chance") (P ∷ [])
    ++ value_text (ascii "  no claim level") q severity (suc t) later k (s + small_income)
    ++ claim_texts q severity t later k s
    ++ line (ascii "  ruin weight") (ruin_weight severity tail (s + small_income) ∷ [])

-- a node and, where it is followed, the lines below it
unfoldable pub node_text : Question → List ℕ → ℕ → ℕ → List ℕ → ℕ → ℕ → List ℕ
node_text q severity tail t chances k s =
    entry (ascii "month") (t ∷ [])
    ++ value_text (ascii " level") q severity t chances k s
    ++ cond (node_allowed q t s) (branch_texts q severity tail t chances k s) []
