-- The lines of ruin in each month, and that of their sums, from the definitions of the model alone.
use Rattle.std.specs.Prelude.{ℕ, ◌+◌, List, [], ◌∷◌, ◌++◌}
use Rattle.model.specs.declared.Head.{Head}
use Rattle.model.specs.declared.Question.TheVariants.{Survive}
use Rattle.model.specs.Plan.{Plan, horizon}
use Rattle.model.specs.Bounds.{ruin_lower, ruin_upper, ruin_lowers, ruin_uppers}
use Rattle.text.specs.Text.{ascii, line, joined}
use Rattle.report_lines.specs.Lines.{numbered_line}
use Rattle.report_lines.specs.Asking.{question_needs, largest_of}

-- Document 02: "After its low lines the report gains `fails t lower upper` for t = 1 to n"
abbrev pub ruin_line : ℕ → ℕ → ℕ → List ℕ
ruin_line t low high = numbered_line (ascii "fails") t low high

abbrev pub ruin_line_of : Plan → ℕ → List ℕ
ruin_line_of p i = ruin_line (i + 1) (ruin_lower p (i + 1)) (ruin_upper p (i + 1))

-- "and a last line `fails all`"
abbrev pub ruin_all_line : ℕ → ℕ → List ℕ
ruin_all_line low high = line (ascii "fails all") (low ∷ high ∷ [])

unfoldable pub ruin_lines : Plan → List ℕ
ruin_lines p = joined (horizon p) (ruin_line_of p) ++ ruin_all_line (ruin_lowers p) (ruin_uppers p)

-- what they need of the workspace: each month what survive needs
abbrev pub ruins_need : Head → ℕ
ruins_need h = largest_of h.months (λ i. question_needs h Survive)
