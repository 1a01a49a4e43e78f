-- An accepted mixture: what is known of each of its plans, and the weighted sums as they are worked out plan by plan.
use Prim.{tt}
use Prim.Native.Nat.{ℕ, suc, ◌+◌, ◌*◌, ◌-◌, ◌<◌, ◌≤◌, max}
use mathlib.Core.Path.{◌≡◌, refl, sym, ap, ◌∙◌}
use mathlib.Core.Bool.{true, false, not}
use mathlib.Core.List.{List, [], ◌∷◌, map, zip_with}
use native.Mathlib.Numerals.{add-one}
use native.Mathlib.Omega.{arith}
use native.Mathlib.Nat.{add_assoc, zero-add, add-zero}
use lib.ListN.{length, get_or, take, drop, length-drop, drop_of_length-le}
use lib.Seq.{drop-cons, drop-drop, get_or-take, length-take-le}
use borrow.Author.Tests.{not-false}
use Rattle.std.specs.Prelude.{Result, Ok, Err, IsOk, IfOk}
use Rattle.model.specs.declared.Head.{Head}
use Rattle.model.specs.declared.Ask.{Ask}
use Rattle.model.specs.declared.Question.{Question}
use Rattle.model.specs.declared.Bounds.{Bounds}
use Rattle.model.specs.declared.refusal.Refusal.{Refusal}
use Rattle.model.specs.declared.Rounding.{Rounding}
use Rattle.model.specs.declared.Rounding.TheVariants.{Down, Up}
use Rattle.model.specs.Scale.{S}
use Rattle.model.specs.Sums.{total, any}
use Rattle.model.specs.Plan.{Plan, plan_of, row_length, horizon}
use Rattle.model.specs.Bounds.{bound, lower, upper, EnclosesQuestion}
use Rattle.model.specs.Memory.{zero_first}
use Rattle.model.specs.Refusal.{first, Accepted, outside, workspace_needed, ask_refusal}
use Rattle.model.proofs.Facts.{neither}
use Rattle.model.proofs.RefusalNumbers.{not_accepted}
use Rattle.model.proofs.MemoryLaws.{filled, zero_more}
use Rattle.model.proofs.Theorems.{enclosure, bound_fits}
use Rattle.questions.proofs.RefusalLaws.{not_refused}
use Rattle.engine.specs.Answers.{Answer, answer_result, bounds_answer, answer, workspace_after}
use Rattle.mixture_plans.specs.declared.Mixture.{Mixture}
use Rattle.mixture_plans.specs.Components.{Components, weights_of, alike}
use Rattle.mixture_plans.specs.Rows.{HeadRow, plan_at, plan_rows, heads_used, weights_used, rows_of, weighed, components_of}
use Rattle.mixture_plans.specs.Refusal.{each_checks, plans_head, ask_of_one}
use Rattle.mixture_plans.proofs.RowLaws.{Next, next, heads_from}
use Rattle.mixture_plans.proofs.AlikeLaws.{alike_means, Matching, matching_none, here, here_same, matching_next}
use Rattle.mixture_plans.proofs.CheckLaws.{MixtureFacts, first_plan, weights_are}
use Rattle.mixture.specs.Bounds.{weighted_sum, mixture_bound, months_of, EnclosesMixture, MixtureLimits}
use Rattle.mixture.proofs.BoundLaws.{Each, each_so, weighted_most, mixture_limits, mixture_encloses}

-- what holds of every accepted plan holds of each plan of the mixture
each_accepted :
    (P : Plan → Type 0) → ((h : Head) (row : List ℕ) → Accepted h row → P (plan_of h row)) → (ws : List ℕ) (hs : List Head) (row : List ℕ) →
    first (each_checks (plan_rows hs row)) ≡ 0 → Each P (weighed ws (plan_rows hs row))
unfolding Each weighed zip_with plan_rows
each_accepted P so [] [] row e = tt
each_accepted P so [] (h ∷ hs) row e = tt
each_accepted P so (w ∷ ws) [] row e = tt
each_accepted P so (w ∷ ws) (h ∷ hs) row e =
    let n = next h hs row e in
    rw n.is (so h (take (row_length h) row) n.accepted, each_accepted P so ws hs (drop (row_length h) row) n.later)

-- and plans that are alike to the first are so one by one
each_alike : (p₀ : Plan) (ws : List ℕ) (rs : List HeadRow) → any (λ p'. not (alike p₀ p')) (map plan_at rs) ≡ false → Each (λ p. alike p₀ p ≡ true) (weighed ws rs)
unfolding Each weighed zip_with any
each_alike p₀ [] [] e = tt
each_alike p₀ [] (r ∷ rs) e = tt
each_alike p₀ (w ∷ ws) [] e = tt
each_alike p₀ (w ∷ ws) (r ∷ rs) e =
    let parts = neither (not (alike p₀ (plan_at r))) _ e in
    (not-false _ parts.0, each_alike p₀ ws rs parts.1)

-- the plans from the i-th on, whose rows begin at `start`, with their weights
abbrev pub left : List Head → List ℕ → ℕ → List ℕ → ℕ → ℕ → Components
left heads weights count row i start = weighed (drop i (take count weights)) (plan_rows (drop i (take count heads)) (drop start row))

-- The weighted sum of the plans that have been asked: with that of those that are left it is the whole.
pub record Summing (heads : List Head) (weights : List ℕ) (count : ℕ) (row : List ℕ) (round : Rounding) (q : Question) (i start sum : ℕ) : Type 0 where
  pub whole :
      sum + weighted_sum (λ p. bound round p q) (left heads weights count row i start)
      ≡ weighted_sum (λ p. bound round p q) (weighed (take count weights) (plan_rows (take count heads) row))

-- the weights from the i-th on
weights_from : (weights : List ℕ) (count : ℕ) → count ≤ length weights → (i : ℕ) → i < count → drop i (take count weights) ≡ get_or weights i 0 ∷ drop (i + 1) (take count weights)
weights_from weights count enough i l =
    rw add-one
    (drop-cons (take count weights) i 0 (rw (length-take-le count weights enough) l)
    ∙ ap (λ (w : ℕ). w ∷ drop (suc i) (take count weights)) (get_or-take count weights i 0 l))

-- an answer that is not a refusal, with these bounds
abbrev pub Given : Result Bounds Refusal → ℕ → ℕ → Type 0
Given r low high = IsOk r × IfOk r (λ b. (b.lower ≡ low) × (b.upper ≡ high))

given_by : (r : Result Bounds Refusal) (low high : ℕ) → answer_result r ≡ bounds_answer 0 low high → Given r low high
unfolding bounds_answer
given_by (Ok b) low high e = (refl, (ap (λ (a : Answer). a.lower) e, ap (λ (a : Answer). a.upper) e))
given_by (Err r) low high e = absurd (not_accepted r _ refl (ap (λ (a : Answer). a.refusal) e))

abbrev no_head : Head
no_head = record { months = 0; opening = 0; sizes = 0; income = 0 }

module _ (m : Mixture) (row : List ℕ) (f : MixtureFacts m row) where
  abbrev h₀ : Head
  h₀ = plans_head m

  -- the first plan
  abbrev p₀ : Plan
  p₀ = plan_of h₀ (take (row_length h₀) row)

  enough : m.count ≤ length m.heads
  enough = omega (arith, f.known.fits, f.known.heads_long)

  all_weights : m.count ≤ length m.weights
  all_weights = omega (arith, f.known.fits, f.known.weights_long)

  -- all plans are left to be asked
  pub none_asked : Matching m.heads row m.count no_head 0 0
  none_asked = matching_none m.heads row m.count no_head enough f.known.some f.each

  first_component : components_of m row ≡ record { weight = get_or m.weights 0 0; plan = p₀ } ∷ weighed (drop 1 (weights_used m)) (plan_rows (drop 1 (heads_used m)) (drop (row_length h₀) row))
  unfolding components_of weighed zip_with
  first_component =
      let rows : rows_of m row ≡ (h₀, take (row_length h₀) row) ∷ plan_rows (drop 1 (heads_used m)) (drop (row_length h₀) row) =
      ap (λ (hs : List Head). plan_rows hs row) (heads_from m.heads row m.count enough 0 no_head f.known.some) ∙ (first_plan m row f).is in
      let ws : weights_used m ≡ get_or m.weights 0 0 ∷ drop 1 (weights_used m) = weights_from m.weights m.count all_weights 0 f.known.some in
      ap (λ (rs : List HeadRow). weighed (weights_used m) rs) rows ∙ ap (λ (xs : List ℕ). weighed xs ((h₀, take (row_length h₀) row) ∷ plan_rows (drop 1 (heads_used m)) (drop (row_length h₀) row))) ws

  first_months : months_of (components_of m row) ≡ horizon p₀
  unfolding months_of
  first_months = ap months_of first_component

  all_months : Each (λ p. horizon p ≡ months_of (components_of m row)) (components_of m row)
  unfolding components_of
  all_months =
      each_so (λ p e. sym (alike_means p₀ p e).months ∙ sym first_months) (components_of m row)
      (each_alike p₀ (weights_used m) (rows_of m row) (none_asked.whole ∙ f.all_alike))

  all_weigh : total (weights_of (components_of m row)) ≡ S
  all_weigh = ap total (weights_are m row f.known) ∙ f.weights_add

  pub accepted_encloses : (q : Question) → EnclosesMixture (components_of m row) q (mixture_bound Down (components_of m row) q) (mixture_bound Up (components_of m row) q)
  unfolding components_of
  accepted_encloses q =
      mixture_encloses (components_of m row) q
      (each_accepted (λ p. EnclosesQuestion p q (lower p q) (upper p q)) (λ h r a. enclosure h r a q) (weights_used m) (heads_used m) row f.each)
      all_months all_weigh

  -- no bound of a plan is above S, so that no product or sum passes 2^62
  all_fit : (round : Rounding) (q : Question) → Each (λ p. bound round p q ≤ S) (components_of m row)
  unfolding components_of
  all_fit round q = each_accepted (λ p. bound round p q ≤ S) (λ h r a. bound_fits h r a round q) (weights_used m) (heads_used m) row f.each

  pub accepted_limits : (round : Rounding) (q : Question) → MixtureLimits round (components_of m row) q
  accepted_limits round q = mixture_limits round (components_of m row) q (all_fit round q) all_weigh

  pub sum_fits : (round : Rounding) (q : Question) → weighted_sum (λ p. bound round p q) (components_of m row) ≤ S * S
  sum_fits round q = rw all_weigh at (weighted_most (λ p. bound round p q) S (components_of m row) (all_fit round q))

  pub summing_none : (round : Rounding) (q : Question) → Summing m.heads m.weights m.count row round q 0 0 0
  summing_none round q = record { whole = zero-add _ }

  module _ (i start : ℕ) (asked : Matching m.heads row m.count no_head i start) where
    pub summing_done :
        (round : Rounding) (q : Question) (sum : ℕ) → Summing m.heads m.weights m.count row round q i start sum → m.count ≤ i →
        sum ≡ weighted_sum (λ p. bound round p q) (components_of m row)
    unfolding components_of weighed zip_with weighted_sum total
    summing_done round q sum so_far all =
        let none : drop i (weights_used m) ≡ [] = drop_of_length-le (weights_used m) {i = i} (rw (length-take-le m.count m.weights all_weights) all) in
        sym (add-zero sum) ∙ (rw none at so_far.whole)

    module _ (l : i < m.count) where
      abbrev h : Head
      h = get_or m.heads i no_head

      abbrev part : List ℕ
      part = take (row_length h) (drop start row)

      -- the next plan has the head of the first, and is accepted
      next_same : h₀ ≡ h
      next_same = here_same m.heads row m.count no_head enough f.known.some f.each i start asked l f.all_alike

      pub next_needs : (q : Question) → workspace_needed (record { head = h; question = q }) ≡ workspace_needed (ask_of_one m q)
      next_needs q = ap (λ (g : Head). workspace_needed (record { head = g; question = q })) (sym next_same)

      next_here : Next h (drop (i + 1) (heads_used m)) (drop start row)
      next_here = here m.heads row m.count no_head enough f.known.some f.each i start asked l

      pub next_accepted : Accepted h part
      next_accepted = next_here.accepted

      pub next_inside : start + row_length h ≤ length row
      next_inside = omega (arith, rw length-drop at next_here.long)

      pub next_asked : Matching m.heads row m.count no_head (i + 1) (start + row_length h)
      next_asked =
          rw (← next_same) (matching_next m.heads row m.count no_head enough f.known.some f.each i start asked l f.all_alike)

      -- asking it is not refused, and gives its bounds and a workspace that is cleared as far as any plan needs it
      pub asked_next :
          (q : Question) → outside q ≡ false → (n : ℕ) → n ≡ row_length h → (r : Result Bounds Refusal) (now next : List ℕ) → workspace_needed (ask_of_one m q) ≤ length now →
          answer_result r ≡ answer (record { head = h; question = q }) (take (start + n - start) (drop start row)) (length now) →
          next ≡ workspace_after (record { head = h; question = q }) (take (start + n - start) (drop start row)) now →
          Given r (lower (plan_of h part) q) (upper (plan_of h part) q) × (next ≡ zero_first (workspace_needed (ask_of_one m q)) now)
      unfolding answer
      asked_next q inside n en r now next fits er ews =
          let ask : Ask = record { head = h; question = q } in
          let count : start + n - start ≡ row_length h = omega (arith, en) in
          let here_fits : workspace_needed ask ≤ length now = omega (arith, next_needs q) in
          let none : ask_refusal ask part (length now) ≡ 0 = not_refused {needed = workspace_needed ask} {room = length now} 10 (omega arith) (record { accepted = next_accepted; inside = inside; enough = here_fits }) in (
            given_by r _ _ (rw (count, none) at er),
            (rw count at ews) ∙ filled (ask_refusal ask part (length now)) (workspace_needed ask) _ now none ∙ ap (λ (k : ℕ). zero_first k now) (next_needs q),
          )

      left_next :
          left m.heads m.weights m.count row i start
          ≡ record { weight = get_or m.weights i 0; plan = plan_of h part } ∷ left m.heads m.weights m.count row (i + 1) (start + row_length h)
      unfolding weighed zip_with
      left_next =
          let rows : plan_rows (drop i (heads_used m)) (drop start row) ≡ (h, part) ∷ plan_rows (drop (i + 1) (heads_used m)) (drop (start + row_length h) row) =
          ap (λ (hs : List Head). plan_rows hs (drop start row)) (heads_from m.heads row m.count enough i no_head l)
          ∙ next_here.is
          ∙ ap (λ (xs : List ℕ). (h, part) ∷ plan_rows (drop (i + 1) (heads_used m)) xs) (drop-drop (row_length h) start row) in
          rw (weights_from m.weights m.count all_weights i l, rows)

      module _ (round : Rounding) (q : Question) (sum : ℕ) (so_far : Summing m.heads m.weights m.count row round q i start sum) where
        -- one product more, and the rest
        one_more :
            sum + get_or m.weights i 0 * bound round (plan_of h part) q + weighted_sum (λ p. bound round p q) (left m.heads m.weights m.count row (i + 1) (start + row_length h))
            ≡ weighted_sum (λ p. bound round p q) (components_of m row)
        unfolding components_of weighted_sum total
        one_more = add_assoc sum _ _ ∙ ap (λ (cs : Components). sum + weighted_sum (λ p. bound round p q) cs) (sym left_next) ∙ so_far.whole

        pub summing_fits : (n : ℕ) → n ≡ get_or m.weights i 0 * bound round (plan_of h part) q → sum + n ≤ S * S
        summing_fits n e = omega (arith, e, one_more, sum_fits round q)

        pub summing_more :
            (n : ℕ) → n ≡ get_or m.weights i 0 * bound round (plan_of h part) q → Summing m.heads m.weights m.count row round q (i + 1) (start + row_length h) (sum + n)
        unfolding components_of
        summing_more n e = record { whole = rw e one_more }

-- A workspace that each plan is asked in: 0 as far as it is needed once one has been.
pub record Reused (needed : ℕ) (before : List ℕ) (i : ℕ) (now : List ℕ) : Type 0 where
  pub long : length now ≡ length before
  pub again : zero_first needed now ≡ zero_first needed before
  pub cleared : 0 < i → now ≡ zero_first needed before

pub reused_none : (needed : ℕ) (ws : List ℕ) → Reused needed ws 0 ws
reused_none needed ws = record { long = refl; again = refl; cleared = λ l. absurd (omega arith) }

pub reused_more :
    (needed : ℕ) (before : List ℕ) (i : ℕ) (now next : List ℕ) → Reused needed before i now → length next ≡ length now → next ≡ zero_first needed now →
    Reused needed before (i + 1) next
reused_more needed before i now next so_far long e =
    let here : next ≡ zero_first needed before = e ∙ so_far.again in
    let once : max needed needed ≡ needed = omega arith in
    record {
      long = long ∙ so_far.long;
      again = ap (zero_first needed) here ∙ zero_more needed needed before ∙ ap (λ (n : ℕ). zero_first n before) once;
      cleared = λ l. here;
    }

-- What asking plan after plan keeps: the plans that are left, both sums and the workspace.
pub record Mixing
    (heads : List Head) (weights : List ℕ) (count : ℕ) (row : List ℕ) (q : Question) (before : List ℕ) (i start low high : ℕ) (now : List ℕ) : Type 0
  where
    pub asked : Matching heads row count no_head i start
    pub lows : Summing heads weights count row Down q i start low
    pub highs : Summing heads weights count row Up q i start high
    pub space : Reused (workspace_needed (record { head = get_or heads 0 no_head; question = q })) before i now

-- where the next plan's row begins, by its length as it was worked out
pub mixing_more :
    (heads : List Head) (weights : List ℕ) (count : ℕ) (row : List ℕ) (q : Question) (before : List ℕ) (i start low high : ℕ) (now : List ℕ) (n n' : ℕ) → n ≡ n' →
    Mixing heads weights count row q before i (start + n') low high now → Mixing heads weights count row q before i (start + n) low high now
mixing_more heads weights count row q before i start low high now n n' e h = rw e h
