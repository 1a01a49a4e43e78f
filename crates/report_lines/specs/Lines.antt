-- The lines of "The reserve report", from the definitions of the model alone.
use Rattle.std.specs.Prelude.{ℕ, ◌<◌, ◌≡◌, List, [], ◌∷◌, ◌++◌, length, get_or}
use Rattle.model.specs.declared.Head.{Head}
use Rattle.model.specs.declared.Question.{Question}
use Rattle.model.specs.declared.Question.TheVariants.{Survive, Both, High, Low}
use Rattle.model.specs.Limits.{places}
use Rattle.model.specs.Plan.{Plan}
use Rattle.model.specs.Bounds.{lower, upper, ruin_lower, ruin_upper, count_lower, count_upper}
use Rattle.text.specs.Text.{ascii, entry, line}
use Rattle.model.specs.declared.Bounds.{Bounds}

-- the word of a question's lines
abbrev pub word_of : Question → List ℕ
word_of Survive = ascii "survive"
word_of (Both k) = ascii "both"
word_of (High L) = ascii "high"
word_of (Low L) = ascii "low"

-- "its number where it has one"
abbrev pub number_of : Question → List ℕ
number_of Survive = []
number_of (Both k) = k ∷ []
number_of (High L) = L ∷ []
number_of (Low L) = L ∷ []

-- "the head line gives n, u and m, each after its word", and by document 02 "ends with ` income c`"
unfoldable pub head_line : Head → List ℕ
head_line h =
    entry (ascii "months") (h.months ∷ [])
    ++ entry (ascii " opening") (h.opening ∷ [])
    ++ entry (ascii " sizes") (h.sizes ∷ [])
    ++ line (ascii " income") (h.income ∷ [])

-- "Every later line is a word, its number where it has one, lower, upper"
abbrev pub bounds_line : Question → ℕ → ℕ → List ℕ
bounds_line q low high = line (word_of q) (number_of q ++ low ∷ high ∷ [])

unfoldable pub question_line : Plan → Question → List ℕ
question_line p q = bounds_line q (lower p q) (upper p q)

-- both bounds of a question, in one struct
abbrev pub bounds_of : Plan → Question → Bounds
bounds_of p q = record { lower = lower p q; upper = upper p q }

-- a line with a number of its own
abbrev pub numbered_line : List ℕ → ℕ → ℕ → ℕ → List ℕ
numbered_line word x low high = line word (x ∷ low ∷ high ∷ [])

-- the line of an opening and its survival bounds
abbrev pub opening_line : ℕ → ℕ → ℕ → List ℕ
opening_line v low high = numbered_line (ascii "opening") v low high

-- "A refused plan prints `refused ` and the number."
abbrev pub refused_line : ℕ → List ℕ
refused_line number = line (ascii "refused") (number ∷ [])

-- both bounds of ruin in a month, in one struct
abbrev pub ruin_bounds_of : Plan → ℕ → Bounds
ruin_bounds_of p t = record { lower = ruin_lower p t; upper = ruin_upper p t }

-- two rows hold the bounds of each place of a plan's count row
pub record CountsOf (p : Plan) (lowers uppers : List ℕ) : Type 0 where
  pub lowers_long : length lowers ≡ places
  pub uppers_long : length uppers ≡ places
  pub lowers_are : (k : ℕ) → k < places → get_or lowers k 0 ≡ count_lower p k
  pub uppers_are : (k : ℕ) → k < places → get_or uppers k 0 ≡ count_upper p k

-- room for a head line, for what a line has after its word, which is three numbers of at most 20 digits, spaces and the newline, and for any line
abbrev pub head_room : ℕ
head_room = 112

abbrev pub number_room : ℕ
number_room = 64

abbrev pub line_room : ℕ
line_room = 71
