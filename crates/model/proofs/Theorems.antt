-- The laws of demands 2 and 3, of every accepted plan: what the other crates cite, and what docs/CLAIMS.md names.
use mathlib.Core.Path.{◌≡◌, refl, sym, ◌∙◌, ap, ap₂, fun_ext}
use mathlib.Core.Bool.{true, false}
use mathlib.Core.List.{List, [], ◌∷◌, ◌++◌}
use Prim.Native.Nat.{ℕ, zero, suc, ◌+◌, ◌*◌, ◌-◌, ◌^◌, ◌≤◌, ◌<◌}
use native.Mathlib.Nat.{le_trans, le_of_mul-le-mul_right, le_refl, eq_of_mul-eq-mul_right, one-le-pow, add-mul, mul_assoc, mul_comm, mul-one, zero-add, zero-mul}
use native.Mathlib.Omega.{arith}
use lib.IntN.{pos}
use lib.ListN.{length, get_or, take, drop, length-append}
use lib.Pow.{pow-add}
use lib.Seq.{get_or-drop, get_or-take, length-take-le, take-suc, take-take}
use borrow.Author.Tests.{le-leb}
use Rattle.model.specs.declared.Head.{Head}
use Rattle.model.specs.declared.Rounding.{Rounding}
use Rattle.model.specs.declared.Rounding.TheVariants.{Down, Up}
use Rattle.model.specs.declared.Question.{Question}
use Rattle.model.specs.declared.Question.TheVariants.{Survive}
use Rattle.model.specs.Scale.{S}
use Rattle.model.specs.Sums.{sum, product, total}
use Rattle.model.specs.Plan.{Plan, plan_of, horizon, sizes, nth}
use Rattle.model.specs.Levels.{largest_level}
use Rattle.model.specs.History.{History, claim, known, at_least, at_most}
use Rattle.model.specs.Exact.{path_from, survives, keeps, first_ruin, weight_of, exact, exact_ruin, exact_count}
use Rattle.model.specs.MonthRule.{Row, Month, month, exact_month, kept, claimed_row, values, value, rule_of, last_of, claims_of, opening_allowed, ruin_weight, ruin_row, carried_back}
use Rattle.model.specs.CountRow.{count_row, exact_count_month, after_months, no_months}
use Rattle.model.specs.FirstClaim.{some_claim, first_claim_survival}
use Rattle.model.specs.Bounds.{bound, lower, upper, ruin_bound, ruin_lower, ruin_upper, ruin_lowers, ruin_uppers, count_lower, count_upper, live_months, months_to, month_gap, Encloses, EnclosesQuestion, EnclosesCount, MonthLimits, RuinLimits, CountLimits}
use Rattle.model.specs.Refusal.{Accepted}
use Rattle.model.proofs.Facts.{facts}
use Rattle.model.proofs.SumLaws.{pow_two_more}
use Rattle.model.proofs.LevelLaws.{level_later}
use Rattle.model.proofs.Quotients.{Direction, downwards, upwards, times_right}
use Rattle.model.proofs.Month.{scale_positive, limit, month_limited}
use Rattle.model.proofs.Values.{kept_rel, take_fits, values_enclose, values_fit, values_never_above, values_gap, live_months_append, last_fits, kept_fits, months_fit}
use Rattle.model.proofs.Histories.{weight_is, weigh_all}
use Rattle.model.proofs.Questions.{unrounded_is_exact}
use Rattle.model.proofs.FirstRuin.{unrounded_ruin_is_exact, ruins_make_up, ruin_row_encloses, ruin_row_gap, ruin_row_fits, ruin_limited}
use Rattle.model.proofs.Counts.{unrounded_count_is_exact, count_month_fits, count_row_encloses, count_row_fits, count_row_gap, count_row_above}
use Rattle.model.proofs.FirstClaimLaw.{some_claim_fits, no_claim_is, survive_is_first_claim}
use Rattle.model.proofs.Tail.{ruins_then, all_fails}

-- the rows that a month of a question's rule reads, by the claims left: those of the months that follow it, from the last rows
abbrev pub rows_read : Rounding → Plan → Question → (ℕ → Row) → List ℕ → ℕ → Row
rows_read round p q last later k = kept (rule_of q).allowed (values (month round p.income p.severity) (rule_of q) last later k)

pub positive : (n : ℕ) → 0 < S ^ n
positive n = one-le-pow n S scale_positive

-- the lower bound is at most the upper one
ordered : {p : Plan} {gap_months : List ℕ} {W low high : ℕ} → Encloses p gap_months W low high → low ≤ high
ordered {p} {gap_months} {W} {low} {high} e = le_of_mul-le-mul_right (le_trans e.below e.above) (positive (2 * horizon p))

-- a row before month i + 1 goes back through the first i months
carried_is :
    (one_month : Month) (p : Plan) (i : ℕ) (row : Row) →
    carried_back one_month p (suc i) row ≡ values one_month (rule_of Survive) (λ k. row) (take i p.chances) 0 p.opening
unfolding carried_back claims_of
carried_is one_month p i row =
    let index : suc i - 1 ≡ i = omega arith in
    ap (λ (n : ℕ). values one_month (rule_of Survive) (λ k. row) (take n p.chances) 0 p.opening) index

-- S^(2n) from the months before a month, that month and the months after it
pub months_around : (i n : ℕ) → i < n → S ^ (2 * i) * S * (S ^ (2 * (n - suc i)) * S) ≡ S ^ (2 * n)
months_around i n l =
    mul_assoc (S ^ (2 * i)) S (S ^ (2 * (n - suc i)) * S)
    ∙ ap (λ (x : ℕ). S ^ (2 * i) * (S * x)) (mul_comm (S ^ (2 * (n - suc i))) S)
    ∙ ap (λ (x : ℕ). S ^ (2 * i) * x) (sym (pow_two_more S (n - suc i)))
    ∙ sym (pow-add S (2 * i) (2 * suc (n - suc i)))
    ∙ ap (λ (e : ℕ). S ^ e) (omega arith)

-- what is related before a month's rounding, at the scale of all months
month_scaled :
    {rel : ℕ → ℕ → Type 0} {round : Rounding} (d : Direction rel round) (i n v e : ℕ) → i < n →
    rel (v * (S ^ (2 * i) * S)) e → rel (v * S ^ (2 * n)) (e * S ^ (2 * (n - suc i)) * S)
month_scaled d i n v e l r =
    rw (← months_around i n l, ← mul_assoc v (S ^ (2 * i) * S) (S ^ (2 * (n - suc i)) * S), mul_assoc e (S ^ (2 * (n - suc i))) S)
    (times_right d (S ^ (2 * (n - suc i)) * S) r)

-- sums of numbers that are each related at the same two scales
sum_related :
    {rel : ℕ → ℕ → Type 0} {round : Rounding} (d : Direction rel round) (n : ℕ) (f g : ℕ → ℕ) (a b : ℕ) →
    ((i : ℕ) → i < n → rel (f (suc i) * a) (g (suc i) * b)) → rel (sum n f * a) (sum n g * b)
unfolding sum
sum_related d zero f g a b h = rw (zero-mul a, zero-mul b) (d.same 0)
sum_related d (suc n) f g a b h =
    rw (add-mul (f 1) (sum n (λ i. f (suc i))) a, add-mul (g 1) (sum n (λ i. g (suc i))) b)
    (d.plus (h 0 (omega arith)) (sum_related d n (λ i. f (suc i)) (λ i. g (suc i)) a b (λ i l. h (suc i) (omega arith))))

module _ (h : Head) (row : List ℕ) (accepted : Accepted h row) where
  abbrev p : Plan
  p = plan_of h row

  pub weights_add : total p.severity + p.tail ≡ S
  weights_add = (facts h row accepted).weights_add

  pub weights_fit : total p.severity + p.tail ≤ S
  weights_fit = omega (arith, weights_add)

  pub chances_fit : (i : ℕ) → get_or p.chances i 0 ≤ S
  unfolding plan_of
  chances_fit = take_fits S h.months row (facts h row accepted).numbers_fit

  pub chance_fits : (t : ℕ) → nth p.chances t ≤ S
  unfolding nth
  chance_fits zero = omega arith
  chance_fits (suc i) = chances_fit i

  pub severity_fits : total p.severity ≤ S
  severity_fits = omega (arith, weights_add)

  pub income_some : 0 < p.income
  unfolding plan_of
  income_some = (facts h row accepted).head.income_some

  -- Demand 2: unrounded, the month rule is W, the weight of the histories that keep the question's condition …
  pub unrounded : (q : Question) → value (exact_month p.income p.severity) p q ≡ exact p q * S
  unrounded q = unrounded_is_exact p income_some q

  -- … so is each place of the count row …
  pub unrounded_count : (k : ℕ) → after_months exact_count_month p.chances no_months k ≡ exact_count p k * S
  unrounded_count k = unrounded_count_is_exact p weights_add k

  -- … and survival with an income of 1 is the published first-claim recursion: "With rounding left out … survive equals the recursion of source document 000,
  -- Theorem 2.1", "for c = 1 alone" …
  pub unrounded_is_first_claim : p.income ≡ 1 → value (exact_month p.income p.severity) p Survive ≡ first_claim_survival p * S
  unrounded_is_first_claim one = survive_is_first_claim p one chances_fit

  -- … so W is, too.
  pub survival_is_first_claim : p.income ≡ 1 → exact p Survive ≡ first_claim_survival p
  survival_is_first_claim one =
      eq_of_mul-eq-mul_right S scale_positive (exact p Survive) (first_claim_survival p)
      (sym (unrounded Survive) ∙ unrounded_is_first_claim one)

  -- the recursion's last term is never cut off at 0: the sum over first-claim months does not pass 1, in all months and in those after a claim in month t
  pub first_claims_fit : (t : ℕ) → some_claim (drop t p.chances) ≤ S ^ (2 * length (drop t p.chances))
  first_claims_fit t = some_claim_fits (drop t p.chances) (λ i. rw get_or-drop (chances_fit (t + i)))

  -- the recursion's last term, 1 less the sum over first-claim months, is the product of the no-claim chances
  pub last_term :
      S ^ (2 * horizon p) - some_claim p.chances
      ≡ S ^ horizon p * product (horizon p) (λ i. S - nth p.chances i)
  last_term = no_claim_is p.chances chances_fit

  -- Demand 3, of the definitions: enclosure and gap for every question and every place of the count row
  pub enclosure :
      (q : Question) → EnclosesQuestion p q (lower p q) (upper p q)
  unfolding bound value
  enclosure q =
      record {
        below = rw (← unrounded q) (one_side downwards);
        above = rw (← unrounded q) (one_side upwards);
        gap = gap;
      }
    where
      one_side :
          {rel : ℕ → ℕ → Type 0} {round : Rounding} (d : Direction rel round) →
          rel (bound round p q * S ^ (2 * horizon p)) (value (exact_month p.income p.severity) p q)
      one_side {rel} {round} d =
          kept_rel (λ a e. rel (a * S ^ (2 * horizon p)) e) (rw zero-mul (d.same 0)) (opening_allowed q) _ _ p.opening
          (rw mul-one at
          (values_enclose d p.income p.severity (rule_of q) (last_of q) (last_of q) 1 (λ k s. rw mul-one (d.same _)) p.chances chances_fit (claims_of q)
          p.opening))

      gap : upper p q ≤ lower p q + month_gap * live_months p.chances
      gap =
          kept_rel (λ a b. b ≤ a + month_gap * live_months p.chances) (omega arith) (opening_allowed q) _ _ p.opening
          (rw zero-add at
          (values_gap p.income p.severity severity_fits (rule_of q) (last_of q) (last_of q) 0 (λ k s. omega arith) p.chances chances_fit (claims_of q)
          p.opening))

  pub count_enclosure :
      (k : ℕ) → EnclosesCount p k (count_lower p k) (count_upper p k)
  count_enclosure k =
      record {
        below = rw (← unrounded_count k) (count_row_encloses downwards p.chances k);
        above = rw (← unrounded_count k) (count_row_encloses upwards p.chances k);
        gap = count_row_gap p.chances chances_fit k;
      }

  -- "All histories together weigh S^(2n)."
  pub all_histories : weight_of p (λ _. true) ≡ S ^ (2 * horizon p)
  all_histories =
      weight_is p (λ _. true)
      ∙ weigh_all p.severity p.tail weights_add p.chances chances_fit

  pub one_month_more : (t : ℕ) → 0 < t → t ≤ horizon p → months_to p t ≡ take (t - 1) p.chances ++ nth p.chances t ∷ []
  unfolding nth
  one_month_more zero some l = absurd (omega arith)
  one_month_more (suc i) some l = let index : suc i - 1 ≡ i = omega arith in rw index (take-suc p.chances i 0 l)

  -- the row before month t, where it ruins: rounded, and exact in parts of S × S
  abbrev pub before : Rounding → ℕ → Row
  before round t = ruin_row round p.income p.severity p.tail (nth p.chances t)

  abbrev pub exact_before : ℕ → Row
  exact_before t s = nth p.chances t * ruin_weight p.severity p.tail (s + p.income)

  -- Document 02, ruin in month t. With rounding left out the rule is W, where each month after t multiplies the weight by S × S …
  pub unrounded_ruin :
      (t : ℕ) → 0 < t → t ≤ horizon p →
      carried_back (exact_month p.income p.severity) p t (exact_before t) * S ^ (2 * (horizon p - t)) ≡ exact_ruin p t
  unfolding exact_ruin nth
  unrounded_ruin zero some l = absurd (omega arith)
  unrounded_ruin (suc i) some l =
      ap (λ (v : ℕ). v * S ^ (2 * (horizon p - suc i))) (carried_is (exact_month p.income p.severity) p i (exact_before (suc i)))
      ∙ sym (unrounded_ruin_is_exact p.income p.severity p.tail income_some weights_add p.chances chances_fit i l p.opening)
      ∙ sym (weight_is p (first_ruin p.income (suc i) p.opening))

  -- … enclosure and gap hold, "the gap rule counting months 1 to t" …
  pub ruin_enclosure :
      (t : ℕ) → 0 < t → t ≤ horizon p → Encloses p (months_to p t) (exact_ruin p t) (ruin_lower p t) (ruin_upper p t)
  unfolding ruin_bound carried_back claims_of
  ruin_enclosure t some l =
      record {
        below = rw (← unrounded_ruin t some l) (one_side downwards);
        above = rw (← unrounded_ruin t some l) (one_side upwards);
        gap = gap;
      }
    where
      early : List ℕ
      early = take (t - 1) p.chances

      early_fit : (i : ℕ) → get_or early i 0 ≤ S
      early_fit = take_fits S (t - 1) p.chances chances_fit

      count : length early ≡ t - 1
      count = length-take-le (t - 1) p.chances (omega arith)

      after : horizon p - suc (t - 1) ≡ horizon p - t
      after = omega arith

      one_side :
          {rel : ℕ → ℕ → Type 0} {round : Rounding} (d : Direction rel round) →
          rel (ruin_bound round p t * S ^ (2 * horizon p))
          (carried_back (exact_month p.income p.severity) p t (exact_before t) * S ^ (2 * (horizon p - t)) * S)
      one_side {rel} {round} d =
          rw after at
          (month_scaled d (t - 1) (horizon p) _ _ (omega arith)
          (rw count at
          (values_enclose d p.income p.severity (rule_of Survive) (λ _. before round t) (λ _. exact_before t) S
          (λ k s. ruin_row_encloses d p.income p.severity p.tail (nth p.chances t) s) early early_fit 0 p.opening)))

      gap : ruin_upper p t ≤ ruin_lower p t + month_gap * live_months (months_to p t)
      gap =
          omega (
            arith,
            values_gap p.income p.severity severity_fits (rule_of Survive) (λ _. before Down t) (λ _. before Up t) (month_gap * live_months (nth p.chances t ∷ []))
                (λ k s. ruin_row_gap p.income p.severity p.tail (nth p.chances t) s) early early_fit 0 p.opening,
            live_months_append early (nth p.chances t ∷ []),
            ap live_months (one_month_more t some l),
          )

  -- … and "The exact chances of all months and of survival make up the whole", …
  pub ruins_and_survival : sum (horizon p) (exact_ruin p) + exact p Survive ≡ S ^ (2 * horizon p)
  unfolding exact_ruin exact keeps
  ruins_and_survival =
      ap₂ (λ (a b : ℕ). a + b)
      (ap (sum (horizon p)) (fun_ext (λ t. weight_is p (first_ruin p.income t p.opening))))
      (weight_is p (survives p.income p.opening))
      ∙ ruins_make_up p.income p.severity p.tail p.chances p.opening
      ∙ sym (weight_is p (λ _. true))
      ∙ all_histories

  -- … "so S lies between the two totals once the survival bounds are added".
  pub whole_between : (ruin_lowers p + lower p Survive ≤ S) × (S ≤ ruin_uppers p + upper p Survive)
  whole_between = (
    le_of_mul-le-mul_right (rw (← scaled) (one_side downwards (ruin_lower p) (lower p Survive) (λ t some l. (ruin_enclosure t some l).below) (enclosure Survive).below)) (positive (2 * horizon p)),
    le_of_mul-le-mul_right (rw (← scaled) (one_side upwards (ruin_upper p) (upper p Survive) (λ t some l. (ruin_enclosure t some l).above) (enclosure Survive).above)) (positive (2 * horizon p)),
  )
    where
      scaled : (sum (horizon p) (exact_ruin p) + exact p Survive) * S ≡ S * S ^ (2 * horizon p)
      scaled = ap (λ (x : ℕ). x * S) ruins_and_survival ∙ mul_comm (S ^ (2 * horizon p)) S

      one_side :
          {rel : ℕ → ℕ → Type 0} {round : Rounding} (d : Direction rel round) (f : ℕ → ℕ) (bound : ℕ) →
          ((t : ℕ) → 0 < t → t ≤ horizon p → rel (f t * S ^ (2 * horizon p)) (exact_ruin p t * S)) →
          rel (bound * S ^ (2 * horizon p)) (exact p Survive * S) →
          rel ((sum (horizon p) f + bound) * S ^ (2 * horizon p)) ((sum (horizon p) (exact_ruin p) + exact p Survive) * S)
      one_side d f bound each survival =
          rw (add-mul (sum (horizon p) f) bound (S ^ (2 * horizon p)), add-mul (sum (horizon p) (exact_ruin p)) (exact p Survive) S)
          (d.plus (sum_related d (horizon p) f (exact_ruin p) (S ^ (2 * horizon p)) S (λ i l. each (suc i) (omega arith) l)) survival)

  -- Months after t have no part in the bounds of ruin in month t.
  pub ruin_before :
      (round : Rounding) (t : ℕ) → 0 < t →
      ruin_bound round p t ≡ ruin_bound round (record { opening = p.opening; income = p.income; chances = take t p.chances; severity = p.severity; tail = p.tail }) t
  unfolding ruin_bound carried_back nth
  ruin_before round zero some = absurd (omega arith)
  ruin_before round (suc i) some =
      rw (get_or-take (suc i) p.chances i 0 (omega arith), take-take (suc i - 1) (suc i) p.chances (omega arith))

  -- "An over claim must always ruin": so does a claim of any size above m, in any month of any history, where over is above 0. In its own month t
  -- the surplus U_t, at index t − 1, is not 1 or more …
  pub tail_claim_ruins_then :
      0 < p.tail → (x : ℕ) → sizes p < x →
      (before after : History) → length (before ++ claim x ∷ after) ≡ horizon p →
      at_least 1 (get_or (path_from p.income p.opening (before ++ claim x ∷ after)) (length before) (known (pos 1))) ≡ false
  unfolding at_most
  tail_claim_ruins_then some x large before after months =
      ruins_then p.income u x (known (pos u)) (le-leb u u (le_refl u)) before after
      (omega (arith, (facts h row accepted).tail_ruins some, level_later p.income u (suc (length before)) (horizon p) (omega (arith, months, length-append before (claim x ∷ after)))))
    where
      u : ℕ
      u = p.opening

  -- … so the fund does not survive.
  pub tail_claim_ruins :
      0 < p.tail → (x : ℕ) → sizes p < x →
      (before after : History) → length (before ++ claim x ∷ after) ≡ horizon p →
      survives p.income p.opening (before ++ claim x ∷ after) ≡ false
  unfolding survives at_least
  tail_claim_ruins some x large before after months =
      all_fails (at_least 1) (known (pos 1)) refl (path_from p.income p.opening (before ++ claim x ∷ after)) (length before)
      (tail_claim_ruins_then some x large before after months)

  pub bounds_ordered : (q : Question) → lower p q ≤ upper p q
  bounds_ordered q = ordered (enclosure q)

  pub ruins_ordered : (t : ℕ) → 0 < t → t ≤ horizon p → ruin_lower p t ≤ ruin_upper p t
  ruins_ordered t some l = ordered (ruin_enclosure t some l)

  pub counts_ordered : (k : ℕ) → count_lower p k ≤ count_upper p k
  counts_ordered k = ordered (count_enclosure k)

  -- every bound is at most S
  pub bound_fits : (round : Rounding) (q : Question) → bound round p q ≤ S
  unfolding bound value
  bound_fits round q =
      kept_fits (opening_allowed q) _ p.opening
      (values_fit round p.income p.severity severity_fits (rule_of q) (last_of q) (last_fits q) p.chances chances_fit (claims_of q) p.opening)

  pub bounds_fit : (q : Question) → (lower p q ≤ S) × (upper p q ≤ S)
  bounds_fit q = (bound_fits Down q, bound_fits Up q)

  before_fits : (round : Rounding) (t s : ℕ) → before round t s ≤ S
  before_fits round t s = ruin_row_fits p.income p.severity p.tail weights_fit round (nth p.chances t) (chance_fits t) s

  ruin_fits : (round : Rounding) (t : ℕ) → ruin_bound round p t ≤ S
  unfolding ruin_bound carried_back
  ruin_fits round t =
      values_fit round p.income p.severity severity_fits (rule_of Survive) (λ _. before round t) (λ _ s. before_fits round t s)
      (take (t - 1) p.chances) (take_fits S (t - 1) p.chances chances_fit) (claims_of Survive) p.opening

  pub ruins_fit : (t : ℕ) → (ruin_lower p t ≤ S) × (ruin_upper p t ≤ S)
  ruins_fit t = (ruin_fits Down t, ruin_fits Up t)

  pub counts_fit : (k : ℕ) → (count_lower p k ≤ S) × (count_upper p k ≤ S)
  counts_fit k = (count_row_fits Down p.chances chances_fit k, count_row_fits Up p.chances chances_fit k)

  -- "above n they are 0"
  pub counts_above : (k : ℕ) → horizon p < k → (count_lower p k ≡ 0) × (count_upper p k ≡ 0)
  counts_above k l = (count_row_above Down p.chances k l, count_row_above Up p.chances k l)

  -- V_t of a question, by the claims left and the level: the row of the months after t
  abbrev pub row_after : Rounding → Question → ℕ → ℕ → Row
  row_after round q t = values (month round p.income p.severity) (rule_of q) (last_of q) (drop t p.chances)

  -- "in the month when no level reaches the target any more": no value of an earlier month r is above the largest of month t's row, as far as the levels that the
  -- fund can reach.
  pub never_above :
      (round : Rounding) (q : Question) (B r t : ℕ) → r ≤ t → ((k s : ℕ) → s ≤ largest_level p.income p.opening t → row_after round q t k s ≤ B) →
      (k s : ℕ) → s ≤ largest_level p.income p.opening r → row_after round q r k s ≤ B
  never_above round q =
      values_never_above round p.income p.severity severity_fits (rule_of q) (last_of q) p.chances chances_fit p.opening

  -- "No sum need pass 2^62": what month t works out at level s with k claims left, over the months that follow it
  abbrev MonthWithin : Rounding → Question → (ℕ → Row) → ℕ → List ℕ → ℕ → ℕ → Type 0
  MonthWithin round q last t later k s =
      MonthLimits round p.income p.severity (nth p.chances t) (rows_read round p q last later k)
      (claimed_row (rows_read round p q last later) ((rule_of q).after_claim k)) s

  month_within :
      (round : Rounding) (q : Question) (last : ℕ → Row) → ((k s : ℕ) → last k s ≤ S) →
      (t : ℕ) (later : List ℕ) → ((i : ℕ) → get_or later i 0 ≤ S) → (k s : ℕ) → MonthWithin round q last t later k s
  month_within round q last fits t later later_fit k s =
      month_limited
      (months_fit round p.income p.severity severity_fits (rule_of q) last fits (nth p.chances t) (chance_fits t) later later_fit k s)

  -- in a question
  pub month_limits : (round : Rounding) (q : Question) (t k s : ℕ) → MonthWithin round q (last_of q) t (drop t p.chances) k s
  month_limits round q t k s =
      month_within round q (last_of q) (last_fits q) t (drop t p.chances) (λ i. rw get_or-drop (chances_fit (t + i))) k s

  -- in month t of a ruin in month r, and in the row before month r
  pub ruin_limits :
      (round : Rounding) (r t k s : ℕ) →
      MonthWithin round Survive (λ _. before round r) t (drop t (take (r - 1) p.chances)) k s
      × RuinLimits p.income p.severity p.tail (nth p.chances r) s
  ruin_limits round r t k s = (
    month_within round Survive (λ _. before round r) (λ _ l. before_fits round r l) t (drop t (take (r - 1) p.chances))
        (λ i. rw get_or-drop (take_fits S (r - 1) p.chances chances_fit (t + i))) k s,
    ruin_limited p.income p.severity p.tail weights_fit (nth p.chances r) (chance_fits r) s,
  )

  -- the same of month t of the count row, over the row of the months before it
  pub count_limits : (round : Rounding) (t k : ℕ) → CountLimits (nth p.chances t) (count_row round (take (t - 1) p.chances)) k
  count_limits round t k =
      record {
        month_total =
            limit _
            (count_month_fits round (nth p.chances t) (chance_fits t) (count_row round (take (t - 1) p.chances))
            (count_row_fits round (take (t - 1) p.chances) (take_fits S (t - 1) p.chances chances_fit)) k).parts;
      }
