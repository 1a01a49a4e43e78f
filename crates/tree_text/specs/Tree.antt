-- The tree of a small plan as text, from the plan's bytes and the definitions of the model. Document 02: "Our newer planners follow a plan by paper and want to see
-- the tree." The nodes come month by month, in each month from the highest level down, for both from the most claims left to none.
use Rattle.std.specs.Prelude.{ℕ, ◌+◌, ◌-◌, min, cond, List, [], eqb, leb, drop}
use Rattle.model.specs.declared.Head.{Head}
use Rattle.model.specs.declared.Question.{Question}
use Rattle.model.specs.Limits.{row_room, max_small_months, small_income}
use Rattle.model.specs.Plan.{Plan, plan_of}
use Rattle.model.specs.MonthRule.{claims_of}
use Rattle.model.specs.Format.{head_of, row_of}
use Rattle.model.specs.Refusal.{read_refusal}
use Rattle.text.specs.Text.{joined}
use Rattle.report_lines.specs.Lines.{refused_line}
use Rattle.plain_engine.specs.Answers.{plain_refusal}
use Rattle.tree_nodes.specs.Nodes.{reached}
use Rattle.tree_values.specs.Lines.{node_text}

-- a plan with an income of 1, from its parts
abbrev pub small_plan : ℕ → List ℕ → List ℕ → ℕ → Plan
small_plan u chances severity tail = record { opening = u; income = small_income; chances = chances; severity = severity; tail = tail }

-- the node after t months at level s with k claims left, if it is reached
unfoldable pub node_if : Question → Plan → ℕ → ℕ → ℕ → List ℕ
node_if q p t s k = cond (reached q p t k s) (node_text q p.severity p.tail t (drop t p.chances) k s) []

-- the nodes at a level, by the claims behind them: at most as many as months, or as are asked
abbrev pub node_after : Question → Plan → ℕ → ℕ → ℕ → List ℕ
node_after q p t s j = node_if q p t s (claims_of q - j)

abbrev pub level_text : Question → Plan → ℕ → ℕ → List ℕ
level_text q p t s = joined (min t (claims_of q) + 1) (node_after q p t s)

-- the nodes after t months: no level is above u + t
abbrev pub level_down : Question → Plan → ℕ → ℕ → List ℕ
level_down q p t i = level_text q p t (p.opening + t - i)

unfoldable pub month_text : Question → Plan → ℕ → List ℕ
month_text q p t = joined (p.opening + t + 1) (level_down q p t)

-- The text of a plan's bytes in parts, one for each month; a refusal stands in the place of the first.
unfoldable pub first_part : ℕ → List ℕ → List ℕ
first_part t text = cond (eqb t 0) text []

unfoldable pub plan_part : Question → Head → List ℕ → ℕ → List ℕ
plan_part q h row t = cond (leb t h.months) (month_text q (plan_of h row) t) []

-- the part of an accepted plan
unfoldable pub accepted_part : Question → Head → List ℕ → ℕ → List ℕ
accepted_part q h row t =
    cond (eqb (plain_refusal (record { head = h; question = q }) row) 0) (plan_part q h row t) (first_part t (refused_line (plain_refusal (record { head = h; question = q }) row)))

-- the part of a plan's bytes: reading refuses first, and then the plain engine, where the plan is too large or the question outside its limits
unfoldable pub tree_part : Question → List ℕ → ℕ → List ℕ
tree_part q bytes t =
    cond (eqb (read_refusal bytes row_room) 0)
    (accepted_part q (head_of bytes) (row_of bytes) t)
    (first_part t (refused_line (read_refusal bytes row_room)))

-- the whole text
abbrev pub tree_parts : ℕ
tree_parts = max_small_months + 1

unfoldable pub tree_of : Question → List ℕ → List ℕ
tree_of q bytes = joined tree_parts (tree_part q bytes)
