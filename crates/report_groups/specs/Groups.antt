-- The groups of lines of "The reserve report": those of each question and of the count row, and what they need of the workspace. A question's line is
-- whatever a report says it is, so that the groups are those of a mixture's report too.
use Rattle.std.specs.Prelude.{ℕ, ◌+◌, ◌*◌, ◌^◌, ◌<◌, ◌≤◌, min, max, ◌≡◌, false, List, length, get_or}
use Rattle.model.specs.declared.Head.{Head}
use Rattle.model.specs.declared.Question.{Question}
use Rattle.model.specs.declared.Question.TheVariants.{Survive, Both, High, Low}
use Rattle.model.specs.Limits.{max_opening, max_income, max_claims, max_span}
use Rattle.model.specs.Levels.{largest_level}
use Rattle.model.specs.Plan.{Plan}
use Rattle.model.specs.Bounds.{count_lower, count_upper}
use Rattle.model.specs.Refusal.{outside}
use Rattle.text.specs.Text.{ascii, joined}
use Rattle.report_lines.specs.Lines.{numbered_line, line_room}
use Rattle.report_lines.specs.Asking.{question_needs, largest_of}
use Rattle.report_groups.specs.declared.LineRange.{LineRange}

-- the same question with another number
abbrev pub numbered : Question → ℕ → Question
numbered Survive x = Survive
numbered (Both k) x = Both x
numbered (High L) x = High x
numbered (Low L) x = Low x

-- so many lines of a question, its number rising from the first
abbrev pub question_at : (Question → List ℕ) → Question → ℕ → ℕ → List ℕ
question_at Line_of q first i = Line_of (numbered q (first + i))

unfoldable pub question_lines : (Question → List ℕ) → Question → ℕ → ℕ → List ℕ
question_lines Line_of q first count = joined count (question_at Line_of q first)

-- the line of a place of the count row
abbrev pub claims_line : ℕ → ℕ → ℕ → List ℕ
claims_line k low high = numbered_line (ascii "claims") k low high

-- the line of a place of a count row, and of a plan's
abbrev pub claims_at : List ℕ → List ℕ → ℕ → List ℕ
claims_at lowers uppers k = claims_line k (get_or lowers k 0) (get_or uppers k 0)

abbrev pub claims_line_of : Plan → ℕ → List ℕ
claims_line_of p k = claims_line k (count_lower p k) (count_upper p k)

-- "Claims run 0 to n"
unfoldable pub claims_lines : Plan → ℕ → List ℕ
claims_lines p n = joined (n + 1) (claims_line_of p)

-- "both 0 to the lesser of n and 24, high 1 to u + n, low 1 to u + 1", where u + c × n replaces u + n and "The low lines run to u + c"; survive has one line,
-- with no number
unfoldable pub line_range : Question → Head → LineRange
line_range Survive h = record { first = 0; count = 1 }
line_range (Both k) h = record { first = 0; count = min h.months max_claims + 1 }
line_range (High L) h = record { first = 1; count = largest_level h.income h.opening h.months }
line_range (Low L) h = record { first = 1; count = h.opening + h.income }

-- all lines of a question
abbrev pub group_lines : (Question → List ℕ) → Head → Question → List ℕ
group_lines Line_of h q = question_lines Line_of q (line_range q h).first (line_range q h).count

-- What lines of a question need: numbers within the limits that fit 64 bits, and room in the text.
pub record LinesFit (q : Question) (first count at : ℕ) (text : List ℕ) : Type 0 where
  pub within : (i : ℕ) → i < count → outside (numbered q (first + i)) ≡ false
  pub numbers_fit : first + count < 2 ^ 64
  pub room : at + count * line_room ≤ length text

-- the most lines of a question
unfoldable pub most_lines : Question → ℕ
most_lines Survive = 1
most_lines (Both k) = max_claims + 1
most_lines (High L) = max_span
most_lines (Low L) = max_opening + max_income

-- what so many lines of a question need, its number rising from the first, and all of its lines
abbrev pub lines_need : Head → Question → ℕ → ℕ → ℕ
lines_need h q first count = largest_of count (λ i. question_needs h (numbered q (first + i)))

abbrev pub group_needs : Head → Question → ℕ
group_needs h q = lines_need h q (line_range q h).first (line_range q h).count

-- and the groups of all four questions
abbrev pub groups_need : Head → ℕ
groups_need h = max (group_needs h (Low 0)) (max (group_needs h (High 0)) (max (group_needs h (Both 0)) (group_needs h Survive)))
