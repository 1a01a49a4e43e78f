-- Laws of the month rule: what one month keeps income of its rows, the rule keeps income over all months, for every question.
use mathlib.Core.Path.{◌≡◌, refl, sym, ◌∙◌, ap, ap₂, fun_ext}
use mathlib.Core.Bool.{Bool, true, false, cond}
use mathlib.Core.List.{List, [], ◌∷◌, ◌++◌}
use mathlib.Core.Option.{Option, none, some}
use Prim.Native.Nat.{ℕ, zero, suc, ◌+◌, ◌*◌, ◌-◌, ◌^◌, ◌≤◌, zero-le, ◌<◌}
use native.Mathlib.Nat.{pow-zero, add-mul, mul_assoc, one-mul, zero-mul, le_refl}
use native.Mathlib.Omega.{arith}
use lib.ListN.{length, get_or, take, drop, length-take, take-append-drop}
use lib.Seq.{get_or-drop, drop-drop, take_all}
use Rattle.model.specs.declared.Rounding.{Rounding}
use Rattle.model.specs.declared.Rounding.TheVariants.{Down, Up}
use Rattle.model.specs.declared.Question.{Question}
use Rattle.model.specs.declared.Question.TheVariants.{Survive, Both, High, Low}
use Rattle.model.specs.Scale.{S}
use Rattle.model.specs.Sums.{total}
use Rattle.model.specs.Levels.{largest_level}
use Rattle.model.specs.MonthRule.{Row, Month, Rule, month, exact_month, kept, claimed_row, month_back, values, all_placed, any_level, rule_of, last_of}
use Rattle.model.specs.Bounds.{live_months, month_gap}
use Rattle.model.proofs.SumLaws.{pow_two_more, count_append, positive_none, positive_more}
use Rattle.model.proofs.LevelLaws.{level_start, level_next, level_from, reachable}
use Rattle.model.proofs.Quotients.{Direction}
use Rattle.model.proofs.Month.{MonthFits, claim_sum_times, month_encloses, month_le, month_fits, month_gap_live, month_gap_idle}

-- no chances, where there is no month
pub no_chances : (Ps : List ℕ) → length Ps < 1 → Ps ≡ []
no_chances [] l = refl
no_chances (P ∷ Ps) l = absurd (omega arith)

-- the first chance and those of the other months, as a part of the list
pub first_and_rest : (Ps : List ℕ) → 0 < length Ps → Ps ≡ get_or Ps 0 0 ∷ take (length Ps - 1) (drop 1 Ps)
first_and_rest [] l = absurd (omega arith)
first_and_rest (P ∷ Ps) l = ap (λ (Qs : List ℕ). P ∷ Qs) (sym (take_all (suc (length Ps) - 1) Ps (omega arith)))

-- what is related, and relates 0 to 0, stays related where levels are taken as 0
pub kept_rel :
    (R : ℕ → ℕ → Type 0) → R 0 0 → (allowed : ℕ → Bool) (X X' : Row) (s : ℕ) → R (X s) (X' s) → R (kept allowed X s) (kept allowed X' s)
unfolding kept
kept_rel R nothing allowed X X' s h = go (allowed s)
  where
    go : (b : Bool) → R (cond b (X s) 0) (cond b (X' s) 0)
    go true = h
    go false = nothing

-- A relation between the values of two month rules, each with its own chances, which may speak of the chances still to come: if it holds of 0 and of the last
-- rows, and each month keeps income it where its two chances are as they should be, then it holds of all values.
module _
    (R : List ℕ → List ℕ → ℕ → ℕ → Type 0)
    (Fit : ℕ → ℕ → Type 0)
    (m₁ m₂ : Month)
    (q : Rule)
    (last₁ last₂ : ℕ → Row)
    (nothing : (Ps Ps' : List ℕ) → R Ps Ps' 0 0)
    (last : (k s : ℕ) → R [] [] (last₁ k s) (last₂ k s))
    (month_keeps :
    (P P' : ℕ) (Ps Ps' : List ℕ) → Fit P P' → (X Y X' Y' : Row) →
    ((s : ℕ) → R Ps Ps' (X s) (X' s)) → ((s : ℕ) → R Ps Ps' (Y s) (Y' s)) →
    (s : ℕ) → R (P ∷ Ps) (P' ∷ Ps') (m₁ P X Y s) (m₂ P' X' Y' s))
  where
    claimed_rel :
        (Ps Ps' : List ℕ) (X X' : ℕ → Row) → ((k s : ℕ) → R Ps Ps' (X k s) (X' k s)) →
        (o : Option ℕ) (s : ℕ) → R Ps Ps' (claimed_row X o s) (claimed_row X' o s)
    unfolding claimed_row
    claimed_rel Ps Ps' X X' h none s = nothing Ps Ps'
    claimed_rel Ps Ps' X X' h (some k) s = h k s

    month_back_rel :
        (P P' : ℕ) (Ps Ps' : List ℕ) → Fit P P' → (N N' : ℕ → Row) → ((k s : ℕ) → R Ps Ps' (N k s) (N' k s)) →
        (k s : ℕ) → R (P ∷ Ps) (P' ∷ Ps') (month_back m₁ q P N k s) (month_back m₂ q P' N' k s)
    unfolding month_back
    month_back_rel P P' Ps Ps' fit N N' h k =
        month_keeps P P' Ps Ps' fit _ _ _ _ (rows k)
        (claimed_rel Ps Ps' (λ j. kept q.allowed (N j)) (λ j. kept q.allowed (N' j)) rows (q.after_claim k))
      where
        rows : (j s : ℕ) → R Ps Ps' (kept q.allowed (N j) s) (kept q.allowed (N' j) s)
        rows j s = kept_rel (R Ps Ps') (nothing Ps Ps') q.allowed (N j) (N' j) s (h j s)

    pub values_rel_pair :
        (Ps Ps' : List ℕ) → length Ps ≡ length Ps' → ((i : ℕ) → Fit (get_or Ps i 0) (get_or Ps' i 0)) →
        (k s : ℕ) → R Ps Ps' (values m₁ q last₁ Ps k s) (values m₂ q last₂ Ps' k s)
    unfolding values
    values_rel_pair [] [] e fit k s = last k s
    values_rel_pair [] (P' ∷ Ps') e fit k s = absurd (omega arith)
    values_rel_pair (P ∷ Ps) [] e fit k s = absurd (omega arith)
    values_rel_pair (P ∷ Ps) (P' ∷ Ps') e fit k s =
        month_back_rel P P' Ps Ps' (fit 0) (values m₁ q last₁ Ps) (values m₂ q last₂ Ps')
        (values_rel_pair Ps Ps' (omega arith) (λ i. fit (suc i))) k s

-- over the same chances
pub values_rel :
    (R : List ℕ → ℕ → ℕ → Type 0) (m₁ m₂ : Month) (q : Rule) (last₁ last₂ : ℕ → Row) →
    ((Ps : List ℕ) → R Ps 0 0) → ((k s : ℕ) → R [] (last₁ k s) (last₂ k s)) →
    ((P : ℕ) (Ps : List ℕ) → P ≤ S → (X Y X' Y' : Row) →
    ((s : ℕ) → R Ps (X s) (X' s)) → ((s : ℕ) → R Ps (Y s) (Y' s)) →
    (s : ℕ) → R (P ∷ Ps) (m₁ P X Y s) (m₂ P X' Y' s)) →
    (Ps : List ℕ) → ((i : ℕ) → get_or Ps i 0 ≤ S) → (k s : ℕ) → R Ps (values m₁ q last₁ Ps k s) (values m₂ q last₂ Ps k s)
values_rel R m₁ m₂ q last₁ last₂ nothing last month_keeps Ps hP =
    values_rel_pair (λ Qs Qs' a b. R Qs a b) (λ P P'. (P ≡ P') × (P ≤ S)) m₁ m₂ q last₁ last₂ (λ Qs Qs'. nothing Qs) last
    (λ P P' Qs Qs' fit X Y X' Y' hx hy s. rw (← fit.0) (month_keeps P Qs fit.1 X Y X' Y' hx hy s))
    Ps Ps refl (λ i. (refl, hP i))

-- a limit of a list's numbers is one of its first
pub take_fits : (B n : ℕ) (xs : List ℕ) → ((i : ℕ) → get_or xs i 0 ≤ B) → (i : ℕ) → get_or (take n xs) i 0 ≤ B
take_fits B zero xs h i = omega arith
take_fits B (suc n) [] h i = omega arith
take_fits B (suc n) (x ∷ xs) h zero = h 0
take_fits B (suc n) (x ∷ xs) h (suc i) = take_fits B n xs (λ j. h (suc j)) i

-- S^(2n) × D for the chances of n months, by recursion
scale : ℕ → List ℕ → ℕ
scale D [] = D
scale D (P ∷ Ps) = S * (S * scale D Ps)

scale_is : (D : ℕ) (Ps : List ℕ) → scale D Ps ≡ S ^ (2 * length Ps) * D
unfolding scale
scale_is D [] = rw (pow-zero S) (sym (one-mul D))
scale_is D (P ∷ Ps) =
    rw (scale_is D Ps, pow_two_more S (length Ps), mul_assoc S (S * S ^ (2 * length Ps)) D, mul_assoc S (S ^ (2 * length Ps)) D)

-- A rounded rule encloses the exact one, from any last rows that enclose the exact last rows at a scale D.
pub values_enclose :
    {rel : ℕ → ℕ → Type 0} {round : Rounding} (d : Direction rel round) (income : ℕ) (F : List ℕ) (q : Rule) (last exact_last : ℕ → Row) (D : ℕ) →
    ((k s : ℕ) → rel (last k s * D) (exact_last k s)) → (Ps : List ℕ) → ((i : ℕ) → get_or Ps i 0 ≤ S) →
    (k s : ℕ) → rel (values (month round income F) q last Ps k s * (S ^ (2 * length Ps) * D)) (values (exact_month income F) q exact_last Ps k s)
unfolding scale
values_enclose {rel} {round} d income F q last exact_last D h Ps hP k s =
    rw (← scale_is D Ps)
    (values_rel (λ Qs a e. rel (a * scale D Qs) e) (month round income F) (exact_month income F) q last exact_last
    (λ Qs. rw zero-mul (d.same 0))
    h
    (λ P Qs hP X Y X' Y' hx hy. month_encloses d income F P X Y X' Y' (scale D Qs) hx hy)
    Ps hP k s)

-- the unrounded rule keeps income a factor common to all values of its last rows
pub values_times :
    (income : ℕ) (F : List ℕ) (q : Rule) (last : ℕ → Row) (c : ℕ) (Ps : List ℕ) → ((i : ℕ) → get_or Ps i 0 ≤ S) →
    (k s : ℕ) → values (exact_month income F) q last Ps k s * c ≡ values (exact_month income F) q (λ k s. last k s * c) Ps k s
unfolding exact_month
values_times income F q last c =
    values_rel (λ Qs a b. a * c ≡ b) (exact_month income F) (exact_month income F) q last (λ k s. last k s * c) (λ Qs. zero-mul c) (λ k s. refl)
    (λ P Qs hP X Y X' Y' hx hy s.
    rw (← fun_ext hx, ← fun_ext hy, ← claim_sum_times F Y c (s + income)) (simp (add-mul, mul_assoc)))

pub kept_fits : {B : ℕ} (allowed : ℕ → Bool) (X : Row) (s : ℕ) → X s ≤ B → kept allowed X s ≤ B
kept_fits {B} allowed X s h = kept_rel (λ a b. a ≤ B) zero-le allowed X X s h

claimed_fits : {B : ℕ} (X : ℕ → Row) (o : Option ℕ) (s : ℕ) → ((k : ℕ) → X k s ≤ B) → claimed_row X o s ≤ B
unfolding claimed_row
claimed_fits X none s h = zero-le
claimed_fits X (some k) s h = h k

-- a month's values, and then those of all months, are not above the largest of the rows after them, as far as the levels that the months lead to
month_back_below :
    (round : Rounding) (income : ℕ) (F : List ℕ) → total F ≤ S → (q : Rule) (P : ℕ) → P ≤ S → (N : ℕ → Row) (B k s : ℕ) → ((j r : ℕ) → r ≤ s + income → N j r ≤ B) →
    month_back (month round income F) q P N k s ≤ B
unfolding month_back
month_back_below round income F hF q P hP N B k s h =
    month_le round income F hF P hP _ _ B s (rows k (s + income) (le_refl (s + income)))
    (λ r l. claimed_fits (λ j. kept q.allowed (N j)) (q.after_claim k) r (λ j. rows j r (omega arith)))
  where
    rows : (j r : ℕ) → r ≤ s + income → kept q.allowed (N j) r ≤ B
    rows j r l = kept_fits q.allowed (N j) r (h j r l)

pub values_below :
    (round : Rounding) (income : ℕ) (F : List ℕ) → total F ≤ S → (q : Rule) (last : ℕ → Row) (B top : ℕ) → ((k s : ℕ) → s ≤ top → last k s ≤ B) →
    (Ps : List ℕ) → ((i : ℕ) → get_or Ps i 0 ≤ S) → (k s : ℕ) → largest_level income s (length Ps) ≤ top → values (month round income F) q last Ps k s ≤ B
unfolding values
values_below round income F hF q last B top hl [] hP k s l = hl k s (omega (arith, level_start income s))
values_below round income F hF q last B top hl (P ∷ Ps) hP k s l =
    month_back_below round income F hF q P (hP 0) (values (month round income F) q last Ps) B k s
    (λ j r m.
    values_below round income F hF q last B top hl Ps (λ i. hP (suc i)) j r
    (omega (arith, level_next income s (length Ps), level_from income r (s + income) (length Ps) m)))

-- so none passes S
pub values_fit :
    (round : Rounding) (income : ℕ) (F : List ℕ) → total F ≤ S → (q : Rule) (last : ℕ → Row) → ((k s : ℕ) → last k s ≤ S) →
    (Ps : List ℕ) → ((i : ℕ) → get_or Ps i 0 ≤ S) → (k s : ℕ) → values (month round income F) q last Ps k s ≤ S
values_fit round income F hF q last hl Ps hP k s =
    values_below round income F hF q last S (largest_level income s (length Ps)) (λ j r l. hl j r) Ps hP k s (le_refl _)

-- the months of one list on top of those of another
pub values_append :
    (m : Month) (q : Rule) (last : ℕ → Row) (Ps Qs : List ℕ) → values m q last (Ps ++ Qs) ≡ values m q (values m q last Qs) Ps
unfolding values
values_append m q last [] Qs = refl
values_append m q last (P ∷ Ps) Qs = ap (month_back m q P) (values_append m q last Ps Qs)

-- survive does not look at the claims left
pub claims_alike :
    (m : Month) (Ps : List ℕ) (k : ℕ) → values m (rule_of Survive) (last_of Survive) Ps k ≡ values m (rule_of Survive) (last_of Survive) Ps 0
unfolding values month_back rule_of last_of claimed_row
claims_alike m [] k = refl
claims_alike m (P ∷ Ps) k =
    ap₂ (m P) (ap (kept any_level) (claims_alike m Ps k)) (ap (kept any_level) (claims_alike m Ps k))

-- No value before a month is above the largest after a later one, as far as the levels that are reached from u.
pub values_never_above :
    (round : Rounding) (income : ℕ) (F : List ℕ) → total F ≤ S → (q : Rule) (last : ℕ → Row) (Ps : List ℕ) → ((i : ℕ) → get_or Ps i 0 ≤ S) → (u B r t : ℕ) → r ≤ t →
    ((k s : ℕ) → s ≤ largest_level income u t → values (month round income F) q last (drop t Ps) k s ≤ B) →
    (k s : ℕ) → s ≤ largest_level income u r → values (month round income F) q last (drop r Ps) k s ≤ B
values_never_above round income F hF q last Ps hP u B r t l h k s m =
    rw (months, values_append (month round income F) q last between (drop t Ps))
    (values_below round income F hF q (values (month round income F) q last (drop t Ps)) B (largest_level income u t) h between
    (take_fits S (t - r) (drop r Ps) (λ i. rw (get_or-drop r Ps i 0) (hP (r + i)))) k s
    (reachable income u s r t (length between) m (omega (arith, length-take (t - r) (drop r Ps)))))
  where
    between : List ℕ
    between = take (t - r) (drop r Ps)

    later : r + (t - r) ≡ t
    later = omega arith

    months : drop r Ps ≡ between ++ drop t Ps
    months =
        sym (take-append-drop (t - r) (drop r Ps))
        ∙ ap (λ (Qs : List ℕ). between ++ Qs) (drop-drop (t - r) r Ps ∙ ap (λ (n : ℕ). drop n Ps) later)

pub live_months_live : (P : ℕ) (Ps : List ℕ) → live_months (suc P ∷ Ps) ≡ 1 + live_months Ps
unfolding live_months
live_months_live P Ps = positive_more (suc P) Ps (omega arith)

pub live_months_idle : (Ps : List ℕ) → live_months (0 ∷ Ps) ≡ live_months Ps
unfolding live_months
live_months_idle Ps = positive_none Ps

pub live_months_append : (Ps Qs : List ℕ) → live_months (Ps ++ Qs) ≡ live_months Ps + live_months Qs
unfolding live_months
live_months_append Ps Qs = count_append _ Ps Qs

-- The two bounds are apart by at most the gap of their last rows and the allowance of the months with a chance above 0.
pub values_gap :
    (income : ℕ) (F : List ℕ) → total F ≤ S → (q : Rule) (last last' : ℕ → Row) (g : ℕ) → ((k s : ℕ) → last' k s ≤ last k s + g) →
    (Ps : List ℕ) → ((i : ℕ) → get_or Ps i 0 ≤ S) →
    (k s : ℕ) → values (month Up income F) q last' Ps k s ≤ values (month Down income F) q last Ps k s + (g + month_gap * live_months Ps)
values_gap income F hF q last last' g hl =
    values_rel (λ Qs a b. b ≤ a + (g + month_gap * live_months Qs)) (month Down income F) (month Up income F) q last last'
    (λ Qs. omega arith) (λ k s. omega (arith, hl k s)) step
  where
    step :
        (P : ℕ) (Qs : List ℕ) → P ≤ S → (X Y X' Y' : Row) →
        ((s : ℕ) → X' s ≤ X s + (g + month_gap * live_months Qs)) → ((s : ℕ) → Y' s ≤ Y s + (g + month_gap * live_months Qs)) →
        (s : ℕ) → month Up income F P X' Y' s ≤ month Down income F P X Y s + (g + month_gap * live_months (P ∷ Qs))
    step zero Qs hP X Y X' Y' hx hy s = rw live_months_idle (month_gap_idle income F X Y X' Y' (g + month_gap * live_months Qs) hx s)
    step (suc P) Qs hP X Y X' Y' hx hy s =
        rw live_months_live (omega (arith, month_gap_live income F hF (suc P) hP X Y X' Y' (g + month_gap * live_months Qs) hx hy s))

-- every question's last row holds S or 0
pub last_fits : (q : Question) (k s : ℕ) → last_of q k s ≤ S
unfolding last_of all_placed
last_fits Survive k s = le_refl S
last_fits (Both j) zero s = le_refl S
last_fits (Both j) (suc k) s = omega arith
last_fits (High L) k s = le_refl S
last_fits (Low L) k s = le_refl S

-- what a month of the rule works out at a level, over the rows of the months that follow it
pub months_fit :
    (round : Rounding) (income : ℕ) (F : List ℕ) → total F ≤ S → (q : Rule) (last : ℕ → Row) → ((k s : ℕ) → last k s ≤ S) →
    (P : ℕ) → P ≤ S → (Ps : List ℕ) → ((i : ℕ) → get_or Ps i 0 ≤ S) → (k s : ℕ) →
    MonthFits round income F P (kept q.allowed (values (month round income F) q last Ps k))
    (claimed_row (λ j. kept q.allowed (values (month round income F) q last Ps j)) (q.after_claim k)) s
months_fit round income F hF q last hl P hP Ps hPs k s =
    month_fits round income F hF P hP _ _ (rows k) (λ r. claimed_fits (λ j. kept q.allowed (values (month round income F) q last Ps j)) (q.after_claim k) r (λ j. rows j r)) s
  where
    rows : (j r : ℕ) → kept q.allowed (values (month round income F) q last Ps j) r ≤ S
    rows j r = kept_fits q.allowed (values (month round income F) q last Ps j) r (values_fit round income F hF q last hl Ps hPs j r)
