-- "Funds worked by hand", the starred lines.
use Rattle.std.specs.Prelude.{ℕ, ◌*◌, ◌-◌, ◌^◌, Bool, true, not, ◌&&◌, ◌||◌, List, [], ◌∷◌, leb, eqb}
use Rattle.model.specs.declared.Head.{Head}
use Rattle.model.specs.declared.Question.{Question}
use Rattle.model.specs.declared.Question.TheVariants.{Survive, Both, High, Low}
use Rattle.model.specs.Scale.{S}
use Rattle.model.specs.Plan.{Plan, plan_of, horizon}
use Rattle.model.specs.Exact.{exact}
use Rattle.model.specs.FirstClaim.{first_claim_survival}
use Rattle.model.specs.Bounds.{lower, upper}
use Rattle.model.specs.Refusal.{plan_refusal}

-- a fund with a question and its bounds: those that document 01 gives, for u 5 with high 4 those of document 02; the two with an income of 2 are ours
pub record Fund : Type 0 where
  pub head : Head
  pub row : List ℕ
  pub question : Question
  pub low : ℕ
  pub high : ℕ

-- n, u, m and c; the row: chances, weights, over; the question and its bounds
abbrev fund : ℕ → ℕ → ℕ → ℕ → List ℕ → Question → ℕ → ℕ → Fund
fund n u m c row q low high =
    record { head = record { months = n; opening = u; sizes = m; income = c }; row = row; question = q; low = low; high = high }

abbrev half : ℕ
half = 2 ^ 29

abbrev one : ℕ
one = 2 ^ 30

unfoldable pub starred : List Fund
starred =
    fund 0 0 1 1 (one ∷ 0 ∷ []) Survive one one
    ∷ fund 1 0 1 1 (half ∷ one ∷ 0 ∷ []) Survive half half
    ∷ fund 1 1 1 1 (half ∷ one ∷ 0 ∷ []) Survive one one
    ∷ fund 1 0 1 1 (one ∷ one ∷ 0 ∷ []) Survive 0 0
    ∷ fund 1 1 2 1 (1 ∷ 1 ∷ (one - 1) ∷ 0 ∷ []) Survive 1073741823 1073741824
    ∷ fund 2 1 2 1 (1 ∷ 1 ∷ 1 ∷ (one - 1) ∷ 0 ∷ []) Survive 1073741823 1073741824
    ∷ fund 1 5 1 1 (0 ∷ one ∷ 0 ∷ []) (High 5) 0 0
    ∷ fund 1 5 1 1 (0 ∷ one ∷ 0 ∷ []) (High 6) one one
    ∷ fund 1 5 2 1 (half ∷ 0 ∷ one ∷ 0 ∷ []) (High 4) 0 0
    ∷ fund 2 1 2 1 (half ∷ half ∷ half ∷ half ∷ 0 ∷ []) Survive 738197504 738197504
    ∷ fund 2 1 2 1 (half ∷ half ∷ half ∷ half ∷ 0 ∷ []) (Both 1) 402653184 402653184
    ∷ fund 2 1 2 1 (half ∷ half ∷ half ∷ half ∷ 0 ∷ []) (Low 2) 402653184 402653184
    ∷ fund 1 0 1 2 (one ∷ one ∷ 0 ∷ []) Survive one one
    ∷ fund 1 0 2 2 (one ∷ 0 ∷ one ∷ 0 ∷ []) Survive 0 0
    ∷ []

-- the published recursion has the same weight where the question is survival and the income 1: it "is for c = 1 alone"
unfoldable pub published : Plan → Question → Bool
published p Survive = not (eqb p.income 1) || eqb (first_claim_survival p) (exact p Survive)
published p (Both k) = true
published p (High L) = true
published p (Low L) = true

-- a fund is accepted, its bounds are those given, and the weight of its histories lies between them
unfoldable pub right : Fund → Bool
right f =
    eqb (plan_refusal f.head f.row) 0
    && eqb (lower p f.question) f.low
    && eqb (upper p f.question) f.high
    && leb (f.low * S ^ (2 * horizon p)) (exact p f.question * S)
    && leb (exact p f.question * S) (f.high * S ^ (2 * horizon p))
    && published p f.question
  where
    p : Plan
    p = plan_of f.head f.row
