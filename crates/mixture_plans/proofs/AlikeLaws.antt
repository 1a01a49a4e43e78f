-- Plans that are alike but for their chances: the test, and the numbers of two rows that it looks at.
use Prim.Native.Nat.{ℕ, ◌+◌, ◌-◌, ◌<◌, ◌≤◌}
use mathlib.Core.Path.{◌≡◌, refl, sym, ap, ap₂, ◌∙◌}
use mathlib.Core.Bool.{true, false, not, ◌&&◌, ◌||◌}
use mathlib.Core.List.{List, [], ◌∷◌, ◌++◌, map}
use native.Mathlib.Numerals.{add-one}
use native.Mathlib.Omega.{arith}
use lib.Dec.{eqb}
use lib.ListN.{length, get_or, take, drop, length-drop, drop_of_length-le}
use lib.Seq.{take-suc, take-add, take-take, drop_at, drop-drop, get_or-drop, take_at, get_or_at, length-take-le}
use borrow.Author.Tests.{eq-eqb, eqb-true, not-false}
use Rattle.numbers.specs.Same.{same}
use Rattle.numbers.proofs.Same.{and_true, equal_same, same_equal, both_ways, told}
use Rattle.model.specs.declared.Head.{Head}
use Rattle.model.specs.Sums.{any}
use Rattle.model.specs.Plan.{Plan, plan_of, row_length, horizon}
use Rattle.model.specs.Sensitivity.{OnlyChancesDiffer}
use Rattle.model.proofs.Facts.{horizon_is, sizes_is, neither}
use Rattle.model.specs.Refusal.{first}
use Rattle.mixture_plans.specs.Components.{alike, unlike}
use Rattle.mixture_plans.specs.Rows.{HeadRow, plan_rows, plan_at}
use Rattle.mixture_plans.specs.Refusal.{each_checks}
use Rattle.mixture_plans.proofs.RowLaws.{heads_from, Next, next}

-- "alike but for their chances" is that the plans differ only in their chances
pub alike_means : (p p' : Plan) → alike p p' ≡ true → OnlyChancesDiffer p p'
unfolding alike
alike_means p p' e =
    let tail = and_true (eqb (horizon p) (horizon p') && eqb p.opening p'.opening && eqb p.income p'.income && same p.severity p'.severity) _ e in
    let severity = and_true (eqb (horizon p) (horizon p') && eqb p.opening p'.opening && eqb p.income p'.income) _ tail.0 in
    let income = and_true (eqb (horizon p) (horizon p') && eqb p.opening p'.opening) _ severity.0 in
    let opening = and_true (eqb (horizon p) (horizon p')) _ income.0 in
    record {
      months = eqb-true _ _ opening.0;
      opening = eqb-true _ _ opening.1;
      income = eqb-true _ _ income.1;
      severity = same_equal _ _ severity.1;
      tail = eqb-true _ _ tail.1;
    }

pub means_alike : (p p' : Plan) → OnlyChancesDiffer p p' → alike p p' ≡ true
unfolding alike
means_alike p p' e =
    rw (eq-eqb _ _ e.months, eq-eqb _ _ e.opening, eq-eqb _ _ e.income, equal_same _ _ e.severity, eq-eqb _ _ e.tail)

-- what follows the chances of a plan's row: the weights and over
after_chances :
    (h : Head) (row : List ℕ) → length row ≡ row_length h → take (h.sizes + 1) (drop h.months row) ≡ (plan_of h row).severity ++ (plan_of h row).tail ∷ []
unfolding plan_of
after_chances h row e =
    rw (add-one)
    (take-suc (drop h.months row) h.sizes 0 (simp length-drop (omega arith))
    ∙ ap (λ (x : ℕ). take h.sizes (drop h.months row) ++ x ∷ []) (get_or-drop h.months row h.sizes 0))

-- lists of one length and a number more
parted : (xs ys : List ℕ) (x y : ℕ) → length xs ≡ length ys → xs ++ x ∷ [] ≡ ys ++ y ∷ [] → (xs ≡ ys) × (x ≡ y)
parted xs ys x y long e = (
  sym (take_at xs (x ∷ []) (length ys) long) ∙ ap (take (length ys)) e ∙ take_at ys (y ∷ []) (length ys) refl,
  sym (get_or_at xs x [] 0 (length ys) long) ∙ ap (λ (l : List ℕ). get_or l (length ys) 0) e ∙ get_or_at ys y [] 0 (length ys) refl,
)

-- two plans with the same head are alike exactly if that is the same
module _ (h : Head) (row row' : List ℕ) (e : length row ≡ row_length h) (e' : length row' ≡ row_length h) where
  differ_only : ((plan_of h row).severity ≡ (plan_of h row').severity) × ((plan_of h row).tail ≡ (plan_of h row').tail) → OnlyChancesDiffer (plan_of h row) (plan_of h row')
  unfolding plan_of
  differ_only parts =
      record {
        months = horizon_is h row e ∙ sym (horizon_is h row' e');
        opening = refl;
        income = refl;
        severity = parts.0;
        tail = parts.1;
      }

  pub same_head_alike : alike (plan_of h row) (plan_of h row') ≡ same (take (h.sizes + 1) (drop h.months row)) (take (h.sizes + 1) (drop h.months row'))
  same_head_alike =
      rw (after_chances h row e, after_chances h row' e')
      (both_ways _ _
      (λ t. let d = alike_means (plan_of h row) (plan_of h row') t in equal_same _ _ (ap₂ (λ (xs : List ℕ) (x : ℕ). xs ++ x ∷ []) d.severity d.tail))
      (λ t. means_alike (plan_of h row) (plan_of h row') (differ_only (parted _ _ _ _ (sizes_is h row e ∙ sym (sizes_is h row' e')) (same_equal _ _ t)))))

-- plans that are alike have the same head
pub alike_head :
    (h h' : Head) (row row' : List ℕ) → length row ≡ row_length h → length row' ≡ row_length h' → alike (plan_of h row) (plan_of h' row') ≡ true → h ≡ h'
unfolding plan_of
alike_head h h' row row' e e' t =
    let d = alike_means (plan_of h row) (plan_of h' row') t in
    let months : h.months ≡ h'.months = sym (horizon_is h row e) ∙ d.months ∙ horizon_is h' row' e' in
    let sizes : h.sizes ≡ h'.sizes = sym (sizes_is h row e) ∙ ap length d.severity ∙ sizes_is h' row' e' in
    λ i. record { months = months i; opening = d.opening i; sizes = sizes i; income = d.income i }

-- what a plan's row has after its chances, where the row is the first part of a longer one
inner : (m k : ℕ) (xs : List ℕ) → m ≤ length xs → take k (drop m (take (m + k) xs)) ≡ take k (drop m xs)
inner m k xs l =
    ap (λ (ys : List ℕ). take k (drop m ys)) (take-add m k xs)
    ∙ ap (take k) (drop_at (take m xs) (take k (drop m xs)) m (length-take-le m xs l))
    ∙ take-take k k (drop m xs) (omega arith)

module _ (heads : List Head) (row : List ℕ) (count : ℕ) (d : Head) where
  abbrev h₀ : Head
  h₀ = get_or heads 0 d

  -- the first plan
  abbrev p₀ : Plan
  p₀ = plan_of h₀ (take (row_length h₀) row)

  -- The plans passed are alike to the first, so that those from the i-th on decide; their rows begin at `start`.
  pub record Matching (i start : ℕ) : Type 0 where
    pub turns : i ≤ count
    pub first_long : row_length h₀ ≤ length row
    pub later : first (each_checks (plan_rows (drop i (take count heads)) (drop start row))) ≡ 0
    pub whole : any (λ p'. not (alike p₀ p')) (map plan_at (plan_rows (drop i (take count heads)) (drop start row))) ≡ unlike (map plan_at (plan_rows (take count heads) row))

  module _ (enough : count ≤ length heads) (some : 0 < count) (each : first (each_checks (plan_rows (take count heads) row)) ≡ 0) where
    pub first_next : Next h₀ (drop 1 (take count heads)) row
    first_next =
        let all : take count heads ≡ h₀ ∷ drop 1 (take count heads) = heads_from heads row count enough 0 d some in
        next h₀ (drop 1 (take count heads)) row (ap (λ (hs : List Head). first (each_checks (plan_rows hs row))) (sym all) ∙ each)

    pub matching_start : (start : ℕ) → start ≡ row_length h₀ → Matching 1 start
    unfolding unlike
    matching_start start e =
        let all : take count heads ≡ h₀ ∷ drop 1 (take count heads) = heads_from heads row count enough 0 d some in
        record {
          turns = omega arith;
          first_long = first_next.long;
          later = rw e first_next.later;
          whole = rw e (sym (ap (λ (hs : List Head). unlike (map plan_at (plan_rows hs row))) all ∙ ap (λ (rows : List HeadRow). unlike (map plan_at rows)) first_next.is));
        }

    -- from the first plan itself on, which is alike to itself
    pub matching_none : Matching 0 0
    unfolding unlike any
    matching_none =
        let all : take count heads ≡ h₀ ∷ drop 1 (take count heads) = heads_from heads row count enough 0 d some in
        let itself : alike p₀ p₀ ≡ true = means_alike p₀ p₀ (record { months = refl; opening = refl; income = refl; severity = refl; tail = refl }) in
        let whole = ap (λ (hs : List Head). plan_rows hs row) all ∙ first_next.is in
        record { turns = omega arith; first_long = first_next.long; later = each; whole = rw (whole, itself) }

    first_is : length (take (row_length h₀) row) ≡ row_length h₀
    first_is = length-take-le (row_length h₀) row first_next.long

    module _ (i start : ℕ) (so_far : Matching i start) where
      pub matching_done : count ≤ i → false ≡ unlike (map plan_at (plan_rows (take count heads) row))
      unfolding any plan_rows
      matching_done all =
          let none : drop i (take count heads) ≡ [] = drop_of_length-le (take count heads) {i = i} (rw (length-take-le count heads enough) all) in
          rw none at so_far.whole

      module _ (l : i < count) where
        abbrev h : Head
        h = get_or heads i d

        abbrev rest : List ℕ
        rest = drop start row

        pub here : Next h (drop (i + 1) (take count heads)) rest
        here =
            next h (drop (i + 1) (take count heads)) rest
            (ap (λ (hs : List Head). first (each_checks (plan_rows hs rest))) (sym (heads_from heads row count enough i d l)) ∙ so_far.later)

        here_is : length (take (row_length h) rest) ≡ row_length h
        here_is = length-take-le (row_length h) rest here.long

        -- this plan and those after it decide
        decide :
            unlike (map plan_at (plan_rows (take count heads) row))
            ≡ not (alike p₀ (plan_of h (take (row_length h) rest)))
            || any (λ p'. not (alike p₀ p')) (map plan_at (plan_rows (drop (i + 1) (take count heads)) (drop (row_length h) rest)))
        unfolding any
        decide =
            sym so_far.whole
            ∙ ap (λ (hs : List Head). any (λ p'. not (alike p₀ p')) (map plan_at (plan_rows hs rest))) (heads_from heads row count enough i d l)
            ∙ ap (λ (rows : List HeadRow). any (λ p'. not (alike p₀ p')) (map plan_at rows)) here.is

        unlike_so : alike p₀ (plan_of h (take (row_length h) rest)) ≡ false → true ≡ unlike (map plan_at (plan_rows (take count heads) row))
        unlike_so e = sym (decide ∙ rw e)

        -- another head
        pub matching_head : (h ≡ h₀ → ⊥) → true ≡ unlike (map plan_at (plan_rows (take count heads) row))
        matching_head ne =
            unlike_so
            (sym
            (both_ways false _ (λ e. cc)
            (λ t. absurd (ne (sym (alike_head h₀ h (take (row_length h₀) row) (take (row_length h) rest) first_is here_is t))))))

        module _ (same_head : h₀ ≡ h) where
          -- the numbers that are compared lie in the row
          pub matching_inside : start + row_length h₀ ≤ length row
          matching_inside = omega (arith, first_next.long, rw (← same_head, length-drop) at here.long, some_row)
            where
              some_row : 0 < row_length h₀
              some_row = omega arith

          alike_is :
              alike p₀ (plan_of h (take (row_length h) rest))
              ≡ same (take (h₀.sizes + 1) (drop h₀.months row)) (take (h₀.sizes + 1) (drop (start + h₀.months) row))
          alike_is =
              let parts : row_length h₀ ≡ h₀.months + (h₀.sizes + 1) = omega arith in
              let long : row_length h₀ ≤ length rest = rw (← same_head) at here.long in
              rw (← same_head)
              (same_head_alike h₀ (take (row_length h₀) row) (take (row_length h₀) rest) first_is (length-take-le (row_length h₀) rest long)
              ∙ ap₂ same
              (ap (λ (n : ℕ). take (h₀.sizes + 1) (drop h₀.months (take n row))) parts ∙ inner h₀.months (h₀.sizes + 1) row (omega (arith, first_next.long)))
              (ap (λ (n : ℕ). take (h₀.sizes + 1) (drop h₀.months (take n rest))) parts
              ∙ inner h₀.months (h₀.sizes + 1) rest (omega arith)
              ∙ ap (take (h₀.sizes + 1)) (drop-drop h₀.months start row)))

          -- the numbers after the chances, as the code lends them
          module _ (step : ℕ) (es : step ≡ row_length h₀) where
            abbrev Same : Type 0
            Same = take (start + step - (start + h₀.months)) (drop (start + h₀.months) row) ≡ take (step - h₀.months) (drop h₀.months row)

            first_count : step - h₀.months ≡ h₀.sizes + 1
            first_count = omega (arith, es)

            this_count : start + step - (start + h₀.months) ≡ h₀.sizes + 1
            this_count = omega (arith, es)

            -- they are others, …
            pub matching_numbers : (Same → ⊥) → true ≡ unlike (map plan_at (plan_rows (take count heads) row))
            matching_numbers ne =
                let other = rw (first_count, this_count) at ne in
                unlike_so (alike_is ∙ sym (told _ _ false (λ e. cc, λ e. absurd (other (sym e)))))

          -- … or the plan is alike, and the plans after it decide
          matching_on : alike p₀ (plan_of h (take (row_length h) rest)) ≡ true → (step : ℕ) → step ≡ row_length h₀ → Matching (i + 1) (start + step)
          matching_on e step es =
              let on : drop (row_length h) rest ≡ drop (start + step) row =
              rw es (ap (λ (g : Head). drop (row_length g) rest) (sym same_head) ∙ drop-drop (row_length h₀) start row) in
              record {
                turns = omega arith;
                first_long = so_far.first_long;
                later = ap (λ (xs : List ℕ). first (each_checks (plan_rows (drop (i + 1) (take count heads)) xs))) (sym on) ∙ here.later;
                whole = sym (decide ∙ (rw (e, on)));
              }

          pub matching_more : (step : ℕ) (es : step ≡ row_length h₀) → Same step es → Matching (i + 1) (start + step)
          matching_more step es e =
              let alike = rw (first_count step es, this_count step es) at e in
              matching_on (alike_is ∙ equal_same _ _ (sym alike)) step es

        -- Where no plan is unlike the first, this one is not: it has the same head, and those after it are left.
        module _ (none : unlike (map plan_at (plan_rows (take count heads) row)) ≡ false) where
          pub here_alike : alike p₀ (plan_of h (take (row_length h) rest)) ≡ true
          here_alike = not-false _ (neither (not (alike p₀ (plan_of h (take (row_length h) rest)))) _ (sym decide ∙ none)).0

          pub here_same : h₀ ≡ h
          here_same = alike_head h₀ h (take (row_length h₀) row) (take (row_length h) rest) first_is here_is here_alike

          pub matching_next : Matching (i + 1) (start + row_length h₀)
          matching_next = matching_on here_same here_alike (row_length h₀) refl
