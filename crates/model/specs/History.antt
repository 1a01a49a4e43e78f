-- Claim histories, from the plan's numbers alone: their weights and the surplus of the fund.
use Rattle.std.specs.Prelude.{ℕ, zero, suc, ◌*◌, ◌-◌, Bool, true, false, leb, ℤ, pos, negsuc, ◌+ℤ◌, ◌-ℤ◌}
use mathlib.Core.List.{List, [], ◌∷◌, map, flat_map, foldr, zip_with}
use Rattle.model.specs.Scale.{S}
use Rattle.model.specs.Sums.{one_to, count}
use Rattle.model.specs.Plan.{Plan, nth}

-- "A history gives each month no claim, one size, or over": `tail_claim` is the over claim.
pub data Event : Type 0 where
  no_claim : Event
  claim : ℕ → Event
  tail_claim : Event

abbrev pub History : Type 0
History = List Event

-- what a month can bring in a plan of m sizes
unfoldable pub events : ℕ → List Event
events m = no_claim ∷ tail_claim ∷ map claim (one_to m)

-- all histories of n months in a plan of m sizes; "With no months there is one history"
unfoldable pub histories : ℕ → ℕ → List History
histories m zero = [] ∷ []
histories m (suc n) = flat_map (λ e. map (λ h. e ∷ h) (histories m n)) (events m)

-- "(S − P_t) × S for no claim, P_t × F_x for size x, P_t × over for over"
unfoldable pub event_weight : List ℕ → ℕ → ℕ → Event → ℕ
event_weight severity tail P no_claim = (S - P) * S
event_weight severity tail P (claim x) = P * nth severity x
event_weight severity tail P tail_claim = P * tail

-- "Its weight is the product over months": of the months' weights, 1 with no months
unfoldable pub history_weight : Plan → History → ℕ
history_weight p h = foldr ◌*◌ 1 (zip_with (event_weight p.severity p.tail) p.chances h)

-- The surplus U_t, document 01's level, is a whole number, which can be 0 or below. After an over claim it is not known: the claim's size is
-- not, and it ruined.
pub data Surplus : Type 0 where
  known : ℤ → Surplus
  lost : Surplus

-- Document 02: "U_t = U_{t-1} + c less the claim"
unfoldable pub next_surplus : ℕ → Surplus → Event → Surplus
next_surplus income (known z) no_claim = known (z +ℤ pos income)
next_surplus income (known z) (claim x) = known (z +ℤ pos income -ℤ pos x)
next_surplus income (known z) tail_claim = lost
next_surplus income lost e = lost

-- U_1 to U_n of a history, from U_0
unfoldable pub surplus_path : ℕ → Surplus → History → List Surplus
surplus_path income before [] = []
surplus_path income before (e ∷ h) = next_surplus income before e ∷ surplus_path income (next_surplus income before e) h

-- U_t ≥ L; "An over claim … ruins in its month", so the surplus after it reaches nothing
unfoldable pub at_least : ℕ → Surplus → Bool
at_least L (known (pos z)) = leb L z
at_least L (known (negsuc z)) = false
at_least L lost = false

-- U_t ≤ L; after an over claim the surplus is below 1, and so at most any L
unfoldable pub at_most : ℕ → Surplus → Bool
at_most L (known (pos z)) = leb z L
at_most L (known (negsuc z)) = true
at_most L lost = true

-- "An over claim counts as one claim"
unfoldable pub is_claim : Event → Bool
is_claim no_claim = false
is_claim (claim x) = true
is_claim tail_claim = true

-- the number of claims N of a history
unfoldable pub claims : History → ℕ
claims h = count is_claim h
