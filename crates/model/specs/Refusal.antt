-- "Turned away": the refusal table. A check is a number and whether it fits; the first that fits counts, and 0 is none.
use Rattle.std.specs.Prelude.{ℕ, ◌+◌, ◌*◌, ◌≡◌, Bool, false, not, ◌&&◌, ◌||◌, cond, List, [], ◌∷◌, ◌++◌, ltb, eqb, length, Result, Ok, Err}
use Rattle.model.specs.declared.Head.{Head}
use Rattle.model.specs.declared.Question.{Question}
use Rattle.model.specs.declared.Question.TheVariants.{Survive, Both, High, Low}
use Rattle.model.specs.declared.Ask.{Ask}
use Rattle.model.specs.declared.refusal.Refusal.{Refusal}
use Rattle.model.specs.declared.refusal.Refusal.TheVariants.{Stub, Horizon, Opening, Sizes, Length, Padding, Chance, Weights, Tail, Outside, Workspace, Kind, Rule, Target, Unreached, Income, Span, Mixture}
use Rattle.model.specs.Limits.{max_months, max_opening, max_sizes, max_income, max_span, max_claims, max_level}
use Rattle.model.specs.Scale.{S}
use Rattle.model.specs.Sums.{total, any}
use Rattle.model.specs.Plan.{Plan, plan_of, row_length, horizon, sizes}
use Rattle.model.specs.Levels.{largest_level, row_levels}
use Rattle.model.specs.Format.{head_bytes, head_of, row_of, fill_of, byte_length}

-- the number that the lists give a refusal
abbrev pub refusal_number : Refusal → ℕ
refusal_number Stub = 1
refusal_number Horizon = 2
refusal_number Opening = 3
refusal_number Sizes = 4
refusal_number Length = 5
refusal_number Padding = 6
refusal_number Chance = 7
refusal_number Weights = 8
refusal_number Tail = 9
refusal_number Outside = 10
refusal_number Workspace = 11
refusal_number Kind = 12
refusal_number Rule = 13
refusal_number Target = 14
refusal_number Unreached = 15
refusal_number Income = 16
refusal_number Span = 17
refusal_number Mixture = 18

-- the number of what a call or a check answers, 0 where nothing is refused
abbrev pub refused_with : {A : Type 0} → Result A Refusal → ℕ
refused_with (Ok _) = 0
refused_with (Err r) = refusal_number r

-- "Checks go in the order of the numbers": the first number of the list that fits
unfoldable pub first : List (ℕ × Bool) → ℕ
first [] = 0
first (c ∷ cs) = cond c.1 c.0 (first cs)

-- 2 horizon, 3 opening, 4 sizes; document 02's 16 income, "c of 0 or above 8", and 17 span, "u + c × n above 320", "both after 4 in that order"
unfoldable pub head_checks : Head → List (ℕ × Bool)
head_checks h =
    (2, ltb max_months h.months)
    ∷ (3, ltb max_opening h.opening)
    ∷ (4, eqb h.sizes 0 || ltb max_sizes h.sizes)
    ∷ (16, eqb h.income 0 || ltb max_income h.income)
    ∷ (17, ltb max_span (largest_level h.income h.opening h.months))
    ∷ []

-- A head is accepted if none of its checks fits.
abbrev pub HeadAccepted : Head → Type 0
HeadAccepted h = first (head_checks h) ≡ 0

-- 5 length, of a row
unfoldable pub length_check : Head → List ℕ → ℕ × Bool
length_check h row = (5, not (eqb (length row) (row_length h)))

-- "over above 0 is accepted only if m + 1 ≥ u + n, also when n = 0", where u + c × n "replaces u + n"
unfoldable pub tail_survivable : Plan → Bool
tail_survivable p = ltb 0 p.tail && ltb (sizes p + 1) (largest_level p.income p.opening (horizon p))

-- 7 chance, 8 weights, 9 tail
unfoldable pub number_checks : Head → List ℕ → List (ℕ × Bool)
number_checks h row =
    (7, any (ltb S) row)
    ∷ (8, not (eqb (total p.severity + p.tail) S))
    ∷ (9, tail_survivable p)
    ∷ []
  where
    p : Plan
    p = plan_of h row

-- 10 question: k or L above its limit
unfoldable pub outside : Question → Bool
outside Survive = false
outside (Both k) = ltb max_claims k
outside (High L) = ltb max_level L
outside (Low L) = ltb max_level L

-- 10 question, of the month of a ruin: "It refuses with 10 a month of 0 or above n."
unfoldable pub month_outside : Head → ℕ → Bool
month_outside h t = eqb t 0 || ltb h.months t

-- "Desk needs: survive, high, low 2 × (u + n + 1) numbers of 32 bits; both k that times k + 1", with u + c × n for u + n
unfoldable pub rows_needed : Question → ℕ
rows_needed Survive = 1
rows_needed (Both k) = k + 1
rows_needed (High L) = 1
rows_needed (Low L) = 1

unfoldable pub workspace_needed : Ask → ℕ
workspace_needed a = 2 * row_levels a.head.income a.head.opening a.head.months * rows_needed a.question

-- 11 desk, "lent room too short": the workspace of a question is document 01's desk
abbrev pub room_check : ℕ → ℕ → ℕ × Bool
room_check needed room = (11, ltb room needed)

-- the checks of a head and a row in memory
unfoldable pub plan_checks : Head → List ℕ → List (ℕ × Bool)
plan_checks h row = head_checks h ++ length_check h row ∷ number_checks h row

unfoldable pub plan_refusal : Head → List ℕ → ℕ
plan_refusal h row = first (plan_checks h row)

-- A plan is accepted if none of its checks fits.
abbrev pub Accepted : Head → List ℕ → Type 0
Accepted h row = plan_refusal h row ≡ 0

-- the checks of a plan, then that of what is asked of it
unfoldable pub asked_checks : Head → List ℕ → ℕ × Bool → List (ℕ × Bool)
asked_checks h row asked = plan_checks h row ++ asked ∷ []

-- A call that answers two bounds: these checks, then that of the workspace's length against what the call needs
unfoldable pub bounds_checks : Head → List ℕ → ℕ × Bool → ℕ → ℕ → List (ℕ × Bool)
bounds_checks h row asked needed room = asked_checks h row asked ++ room_check needed room ∷ []

unfoldable pub bounds_refusal : Head → List ℕ → ℕ × Bool → ℕ → ℕ → ℕ
bounds_refusal h row asked needed room = first (bounds_checks h row asked needed room)

-- Asking: the head, the row, the question, and the workspace's length
abbrev pub ask_refusal : Ask → List ℕ → ℕ → ℕ
ask_refusal a row room = bounds_refusal a.head row (10, outside a.question) (workspace_needed a) room

-- the workspace of survive, which calls of their own need as well: "Its desk is that of survive"
abbrev pub survival_workspace : Head → ℕ
survival_workspace h = workspace_needed (record { head = h; question = Survive })

-- Ruin in a month
abbrev pub ruin_refusal : Head → ℕ → List ℕ → ℕ → ℕ
ruin_refusal h t row room = bounds_refusal h row (10, month_outside h t) (survival_workspace h) room

-- The count row: the head and the row, and no room
abbrev pub count_refusal : Head → List ℕ → ℕ
count_refusal h row = plan_refusal h row

-- Writing: the head, the row, and the length of the bytes lent
unfoldable pub write_refusal : Head → List ℕ → ℕ → ℕ
write_refusal h row room = first (plan_checks h row ++ room_check (byte_length h) room ∷ [])

-- Reading: the bytes, and the length of the row lent; 1 stub, by document 02 "fewer than 4 bytes", and 6 padding are of bytes alone
unfoldable pub read_refusal : List ℕ → ℕ → ℕ
read_refusal bytes room =
    first
    ((1, ltb (length bytes) head_bytes)
    ∷ head_checks h
    ++ (5, not (eqb (length bytes) (byte_length h)))
    ∷ (6, any (eqb 1) (fill_of bytes))
    ∷ number_checks h row
    ++ room_check (row_length h) room
    ∷ [])
  where
    h : Head
    h = head_of bytes

    row : List ℕ
    row = row_of bytes
