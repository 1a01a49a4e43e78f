-- The opening in high and in low, of any plan: document 02, "The opening counts towards the highest level".
use mathlib.Core.Path.{◌≡◌, refl, ap, ◌∙◌, fun_ext}
use mathlib.Core.Bool.{Bool, true, false, ◌&&◌, cond}
use mathlib.Core.List.{[], zip_with}
use Prim.Native.Nat.{ℕ, ◌+◌, ◌≤◌, ◌<◌}
use lib.Dec.{leb}
use borrow.Author.Tests.{le-leb, lt-leb}
use Rattle.model.specs.declared.Rounding.{Rounding}
use Rattle.model.specs.declared.Question.{Question}
use Rattle.model.specs.declared.Question.TheVariants.{High, Low}
use Rattle.model.specs.Scale.{S}
use Rattle.model.specs.Sums.{total, all}
use Rattle.model.specs.Plan.{Plan}
use Rattle.model.specs.History.{History, histories, history_weight, surplus_path, at_least, at_most}
use Rattle.model.specs.Exact.{path_from, survives, keeps, weight_of, exact}
use Rattle.model.specs.MonthRule.{Month, month, kept, values, value, rule_of, last_of, claims_of, opening_row, opening_allowed}
use Rattle.model.specs.Bounds.{bound}
use Rattle.model.proofs.Histories.{weight_is, weigh_none}

-- Where the question allows the opening, the answer is V_0(u) …
pub value_allowed :
    (one_month : Month) (p : Plan) (q : Question) → opening_allowed q p.opening ≡ true →
    value one_month p q ≡ opening_row one_month p q p.opening
unfolding value kept
value_allowed one_month p q e = rw e

-- … and where it does not, 0.
pub value_forbidden : (one_month : Month) (p : Plan) (q : Question) → opening_allowed q p.opening ≡ false → value one_month p q ≡ 0
unfolding value kept
value_forbidden one_month p q e = rw e

-- Where u is above L no history keeps income the condition of high, with no months too.
pub none_keeps : (income L u : ℕ) → L < u → (h : History) → keeps income (High L) u h ≡ false
unfolding keeps
none_keeps income L u l h = ap (λ (b : Bool). b && survives income u h && all (at_most L) (path_from income u h)) (lt-leb u L l)

-- "For L at least u, nothing moves": the bounds are V_0(u), and the condition is that of the months alone.
pub high_unmoved :
    (p : Plan) (L : ℕ) → p.opening ≤ L →
    ((round : Rounding) → bound round p (High L) ≡ opening_row (month round p.income p.severity) p (High L) p.opening)
    × (exact p (High L) ≡ weight_of p (λ h. survives p.income p.opening h && all (at_most L) (path_from p.income p.opening h)))
unfolding bound opening_allowed exact keeps weight_of
high_unmoved p L l = (
  λ round. value_allowed (month round p.income p.severity) p (High L) (le-leb p.opening L l),
  rw (le-leb p.opening L l),
)

-- Where u is above L the exact weight and both bounds are 0.
pub high_exceeded : (p : Plan) (L : ℕ) → L < p.opening → (exact p (High L) ≡ 0) × ((round : Rounding) → bound round p (High L) ≡ 0)
unfolding bound opening_allowed exact
high_exceeded p L l = (
  weight_is p (keeps p.income (High L) p.opening) ∙ rw (fun_ext (none_keeps p.income L p.opening l)) (weigh_none p.severity p.tail p.chances),
  λ round. value_forbidden (month round p.income p.severity) p (High L) (lt-leb p.opening L l),
)

-- "U_0 does not count" in low: neither in the bounds nor in the condition.
pub low_unmoved :
    (p : Plan) (L : ℕ) →
    ((round : Rounding) → bound round p (Low L) ≡ opening_row (month round p.income p.severity) p (Low L) p.opening)
    × (exact p (Low L) ≡ weight_of p (λ h. survives p.income p.opening h && all (at_least L) (path_from p.income p.opening h)))
unfolding bound opening_allowed exact keeps weight_of
low_unmoved p L = (λ round. value_allowed (month round p.income p.severity) p (Low L) refl, refl)

-- With no months low holds "for every L" …
pub low_no_months : (p : Plan) → p.chances ≡ [] → (L : ℕ) → (exact p (Low L) ≡ 1) × ((round : Rounding) → bound round p (Low L) ≡ S)
unfolding total histories history_weight zip_with all surplus_path survives keeps weight_of exact values rule_of last_of claims_of
low_no_months p none L = (rw none, λ round. rw ((low_unmoved p L).0 round, none))

-- … and high exactly if u is at most L.
pub high_no_months :
    (p : Plan) → p.chances ≡ [] → (L : ℕ) →
    (exact p (High L) ≡ cond (leb p.opening L) 1 0) × ((round : Rounding) → bound round p (High L) ≡ cond (leb p.opening L) S 0)
unfolding total histories history_weight zip_with all surplus_path survives keeps weight_of exact kept values value rule_of last_of claims_of opening_allowed bound
high_no_months p none L = (rw none (weighs (leb p.opening L)), λ round. rw none)
  where
    weighs : (b : Bool) → cond (b && true && true) 1 0 + 0 ≡ cond b 1 0
    weighs true = refl
    weighs false = refl
