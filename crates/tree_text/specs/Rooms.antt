-- How long the text of a tree can get.
use Rattle.std.specs.Prelude.{ℕ, zero, suc, ◌+◌, ◌*◌, ◌-◌, List, eqb}
use Prim.Native.Char.{code}
use Rattle.model.specs.Sums.{sum, count}
use Rattle.model.specs.Limits.{max_small_months, max_small_opening}

-- the most lines of one node at each of the levels 0 to n − 1: the node, its month's chance, the branch without a claim, a claim of each size up to the level,
-- and what ruins
unfoldable pub level_lines : ℕ → ℕ
level_lines zero = 0
level_lines (suc n) = level_lines n + (n + 4)

-- the most lines of the nodes after t months, which have at most t claims behind them
abbrev pub month_lines : ℕ → ℕ
month_lines t = (t + 1) * level_lines (max_small_opening + t + 1)

-- room for a line, and for the nodes of a month
abbrev pub tree_line_room : ℕ
tree_line_room = 70

abbrev pub text_room : ℕ
text_room = month_lines max_small_months * tree_line_room

-- how many lines a text has
unfoldable pub lines_in : List ℕ → ℕ
lines_in text = count (λ byte. eqb byte (code "\n")) text

-- the most lines of a tree
unfoldable pub tree_lines : ℕ
tree_lines = sum (max_small_months + 1) (λ t. month_lines (t - 1))
