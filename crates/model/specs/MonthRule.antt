-- The month rule, with its rounding as a parameter.
use Rattle.std.specs.Prelude.{ℕ, zero, suc, ◌+◌, ◌*◌, ◌-◌, min, Bool, true, cond, List, [], ◌∷◌, leb, length, take, drop}
use Rattle.std.proofs.Math.Option.{Option, none, some}
use Rattle.model.specs.declared.Rounding.{Rounding}
use Rattle.model.specs.declared.Question.{Question}
use Rattle.model.specs.declared.Question.TheVariants.{Survive, Both, High, Low}
use Rattle.model.specs.Scale.{S, quotient}
use Rattle.model.specs.Sums.{sum, total}
use Rattle.model.specs.Plan.{Plan, nth}

-- a value at each level
abbrev pub Row : Type 0
Row = ℕ → ℕ

-- Document 01's A before its division, the sum of F_x × V_t(s + 1 − x), by the level at which the claim comes. Document 02: "s + 1 becomes s + c, and the
-- claim sum takes sizes up to the lesser of s + c − 1 and m".
unfoldable pub claim_sum : List ℕ → Row → ℕ → ℕ
claim_sum severity next level = sum (min (level - 1) (length severity)) (λ x. nth severity x * next (level - x))

-- A month takes its chance, the row read where no claim comes and the row read after a claim to the row before it.
abbrev pub Month : Type 0
Month = ℕ → Row → Row → Row

-- "V_{t-1}(s) = ((S − P_t) × V_t(s + 1) + P_t × A) divided by S", A the claim sum divided by S, with s + c for s + 1: the same "with rounding left out",
-- multiplied by S × S so that it stays whole
unfoldable pub exact_month : ℕ → List ℕ → Month
exact_month income severity P quiet claimed s = (S - P) * S * quiet (s + income) + P * claim_sum severity claimed (s + income)

-- Document 02: "the month's value shall be the exact quotient by S × S, rounded once down or up"
unfoldable pub month : Rounding → ℕ → List ℕ → Month
month round income severity P quiet claimed s = quotient round (exact_month income severity P quiet claimed s) (S * S)

-- What a question chooses in the month rule besides its last row. The rows are told apart by the number of claims left to place, which only both k
-- looks at.
pub record Rule : Type 0 where
  -- the claims left after one more claim, if there may be one more
  pub after_claim : ℕ → Option ℕ
  -- the levels that the question does not forbid in the months 1 to n
  pub allowed : ℕ → Bool

-- "a V_t(s') whose level s' the question forbids is taken as 0"
unfoldable pub kept : (ℕ → Bool) → Row → Row
kept allowed row s = cond (allowed s) (row s) 0

-- the row read after a claim: "a claim with none left adds 0"
unfoldable pub claimed_row : (ℕ → Row) → Option ℕ → Row
claimed_row rows none s = 0
claimed_row rows (some k) s = rows k s

-- the rows before a month from the rows after it
unfoldable pub month_back : Month → Rule → ℕ → (ℕ → Row) → ℕ → Row
month_back one_month q P next k = one_month P (rows k) (claimed_row rows (q.after_claim k))
  where
    rows : ℕ → Row
    rows j = kept q.allowed (next j)

-- V_0 by the claims left, from V_n: "For t = n down to 1", each chance's month on top of the months that follow it
unfoldable pub values : Month → Rule → (ℕ → Row) → List ℕ → ℕ → Row
values one_month q last [] = last
values one_month q last (P ∷ later) = month_back one_month q P (values one_month q last later)

-- "V_n(s) = S"
abbrev pub whole : ℕ → Row
whole k s = S

-- "For both k, V_n is S with no claims left to place and 0 otherwise"
unfoldable pub all_placed : ℕ → Row
all_placed zero s = S
all_placed (suc k) s = 0

-- "a claim lowers it by one"
unfoldable pub one_fewer : ℕ → Option ℕ
one_fewer zero = none
one_fewer (suc k) = some k

abbrev pub any_level : ℕ → Bool
any_level s = true

unfoldable pub rule_of : Question → Rule
rule_of Survive = record { after_claim = some; allowed = any_level }
rule_of (Both k) = record { after_claim = one_fewer; allowed = any_level }
rule_of (High L) = record { after_claim = some; allowed = λ s. leb s L }
rule_of (Low L) = record { after_claim = some; allowed = λ s. leb L s }

-- V_n of each question
unfoldable pub last_of : Question → ℕ → Row
last_of Survive = whole
last_of (Both k) = all_placed
last_of (High L) = whole
last_of (Low L) = whole

-- the claims to place at the opening
unfoldable pub claims_of : Question → ℕ
claims_of Survive = 0
claims_of (Both k) = k
claims_of (High L) = 0
claims_of (Low L) = 0

-- V_0 of a question, by the level at which the fund opens
abbrev pub opening_row : Month → Plan → Question → Row
opening_row one_month p q = values one_month (rule_of q) (last_of q) p.chances (claims_of q)

-- the openings that a question does not forbid: the level of high caps them too, "U_0 does not count" in low
unfoldable pub opening_allowed : Question → ℕ → Bool
opening_allowed Survive = any_level
opening_allowed (Both k) = any_level
opening_allowed (High L) = λ u. leb u L
opening_allowed (Low L) = any_level

-- "The answer is V_0(u)". Document 02 of high, with no months too: "V_0(u) is then also taken as 0 where u is above L"
unfoldable pub value : Month → Plan → Question → ℕ
value one_month p q = kept (opening_allowed q) (opening_row one_month p q) p.opening

-- Document 02: the weight of the sizes that ruin, "over included", by the level at which the claim comes. "Ruin by a claim is now a size of s + c or more."
unfoldable pub ruin_weight : List ℕ → ℕ → ℕ → ℕ
ruin_weight severity tail level = total (drop (level - 1) severity) + tail

-- "For month t the value before it at level s is P_t times the weight …, divided by S and rounded each way"
unfoldable pub ruin_row : Rounding → ℕ → List ℕ → ℕ → ℕ → Row
ruin_row round income severity tail P s = quotient round (P * ruin_weight severity tail (s + income)) S

-- "the month rule carries it back to the opening": a row before month t through the months t − 1 to 1, which forbid no level
unfoldable pub carried_back : Month → Plan → ℕ → Row → ℕ
carried_back one_month p t row =
    values one_month (rule_of Survive) (λ k. row) (take (t - 1) p.chances) (claims_of Survive) p.opening
