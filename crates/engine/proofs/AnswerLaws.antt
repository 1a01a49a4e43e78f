-- Laws of an answer that has two bounds: refused or worked out, the parts as they are lent, the last rows, and the value that they give.
use mathlib.Core.Path.{◌≡◌, refl, sym, ◌∙◌, ap}
use mathlib.Core.Bool.{true, false}
use mathlib.Core.List.{List}
use Prim.Native.Nat.{ℕ, zero, suc, ◌+◌, ◌*◌, ◌-◌, ◌≤◌, ◌<◌}
use native.Mathlib.Nat.{le_refl, mul_assoc, mul_comm, one-mul, sub-zero, zero-add, zero-mul}
use native.Mathlib.Omega.{arith}
use lib.ListN.{length, get_or, take, drop, replicate, get_or-replicate, length-take}
use lib.Seq.{length-take-le, take_all, take-take, get_or-take}
use borrow.Author.Tests.{ne_eqb}
use Rattle.model.specs.declared.Head.{Head}
use Rattle.model.specs.declared.Ask.{Ask}
use Rattle.model.specs.declared.Question.{Question}
use Rattle.model.specs.declared.Question.TheVariants.{Survive}
use Rattle.model.specs.declared.Rounding.{Rounding}
use Rattle.model.specs.declared.Bounds.{Bounds}
use Rattle.model.specs.declared.refusal.Refusal.{Refusal}
use Rattle.std.specs.Prelude.{Result, Ok, Err, IfOk}
use Rattle.model.specs.Plan.{nth, plan_of, row_length}
use Rattle.model.specs.Levels.{largest_level, row_levels}
use Rattle.model.specs.MonthRule.{month, values, all_placed, last_of, opening_allowed, ruin_row, carried_back}
use Rattle.model.specs.Bounds.{bound, ruin_bound}
use Rattle.model.specs.Refusal.{refusal_number, outside, rows_needed, workspace_needed}
use Rattle.model.proofs.LevelLaws.{level_later}
use Rattle.model.proofs.Facts.{Facts, horizon_is}
use Rattle.model.proofs.Rooms.{rows_few}
use Rattle.model.proofs.MemoryLaws.{filled, kept, when_none, when_refused}
use Rattle.model.proofs.RefusalNumbers.{not_accepted}
use Rattle.model.proofs.Opening.{value_allowed, value_forbidden}
use Rattle.engine.specs.declared.bounds.LastRows.{LastRows}
use Rattle.engine.specs.declared.bounds.LastRows.TheVariants.{Placed, Ruin}
use Rattle.month_rows.specs.declared.rows.Shape.{Shape}
use Rattle.month_rule.specs.Months.{PlanTerms, rule_by}
use Rattle.month_rows.specs.Rows.{Replaced}
use Rattle.month_rows.specs.Shapes.{rows_size, values_in}
use Rattle.month_rows.proofs.RowLaws.{chances_parts}
use Rattle.ruin_rows.specs.Terms.{RuinTerms}
use Rattle.questions.specs.Needs.{shape_of}
use Rattle.engine.specs.LastRows.{last_rows, past_last, LastIn, LastFits, opening_value}
use Rattle.engine.specs.Answers.{Answer, answer_result, refused, bounds_answer}
use Rattle.model.specs.Memory.{zero_first, cleared_after}
use Rattle.questions.proofs.ShapeLaws.{shape_rows, shape_width, last_agree, shape_value}

-- The clauses of a call that answers two bounds, of which something holds (E): of a refusal, of which nothing else is promised …
pub refused_out :
    (E : ℕ → ℕ → Type 0) (r : Result Bounds Refusal) (e : Refusal) (number needed low high : ℕ) (ws : List ℕ) → r ≡ Err e → refusal_number e ≡ number →
    (answer_result r ≡ bounds_answer number low high) × ((ws ≡ cleared_after number needed ws) × IfOk r (λ b. E b.lower b.upper))
unfolding refused bounds_answer
refused_out E r e number needed low high ws is refuses =
    let some = not_accepted e number refuses in
    rw is (rw (← refuses) (sym (when_refused _ _ _ (not_accepted e _ refl))), (sym (kept number needed _ ws some), tt))

-- … and of an answer: what holds of the definition's bounds holds of its numbers.
pub answered_out :
    (E : ℕ → ℕ → Type 0) (b : Bounds) (number m needed : ℕ) (ws ws' : List ℕ) {low high : ℕ} → number ≡ 0 → b.lower ≡ low → b.upper ≡ high →
    ws' ≡ zero_first m ws → m ≡ needed → E low high →
    (answer_result (Ok b) ≡ bounds_answer number low high) × ((ws' ≡ cleared_after number needed ws) × E b.lower b.upper)
unfolding bounds_answer
answered_out E b number m needed ws ws' none el eh cleared em holds = (
  rw (el, eh) (sym (when_none _ _ _ none)),
  (cleared ∙ ap (λ k. zero_first k ws) em ∙ sym (filled number needed (replicate needed 0) ws none), rw (el, eh) holds),
)

-- an answer gives its refusal's number, and its bounds where that is 0
pub number_is : (number low high : ℕ) → (bounds_answer number low high).refusal ≡ number
unfolding bounds_answer refused
number_is zero low high = refl
number_is (suc n) low high = rw (ne_eqb (suc n) 0 (λ z. omega (arith, z)))

pub bounds_are : (number low high : ℕ) → (bounds_answer number low high).refusal ≡ 0 → ((bounds_answer number low high).lower ≡ low) × ((bounds_answer number low high).upper ≡ high)
unfolding bounds_answer
bounds_are number low high e = rw (sym (number_is number low high) ∙ e) (refl, refl)

-- the answer that the bounds give
pub answer_worked : (low high low' high' : ℕ) → low ≡ low' → high ≡ high' → ◌≡◌ {A = Answer} (record { refusal = 0; lower = low; upper = high }) (bounds_answer 0 low' high')
unfolding bounds_answer
answer_worked low high low' high' el eh = rw (el, eh)

-- the two halves are what is needed
pub needed_halves : (a : Ask) (width : ℕ) → width ≡ row_levels a.head.income a.head.opening a.head.months → 2 * rows_size (shape_of a.question width a.head.income) ≡ workspace_needed a
unfolding workspace_needed
needed_halves a width e =
    rw (shape_rows a.question width a.head.income, shape_width a.question width a.head.income, ← e)
    (ap (λ n. 2 * n) (mul_comm (rows_needed a.question) width) ∙ sym (mul_assoc 2 width (rows_needed a.question)))

-- what the bounds ask of the plan's row, as it is lent: the first months, the weights, and over
pub chances_lent : (h : Head) (row : List ℕ) (months : ℕ) → months ≤ h.months → take months row ≡ take months (plan_of h row).chances
unfolding plan_of
chances_lent h row months l = sym (take-take months h.months row l)

pub severity_lent : (h : Head) (row : List ℕ) → take (h.months + h.sizes - h.months) (drop h.months row) ≡ (plan_of h row).severity
unfolding plan_of
severity_lent h row = let sizes : h.months + h.sizes - h.months ≡ h.sizes = omega arith in rw sizes

tail_lent : (h : Head) (row : List ℕ) → get_or row (h.months + h.sizes) 0 ≡ (plan_of h row).tail
unfolding plan_of
tail_lent h row = refl

pub terms_lent :
    (h : Head) (row : List ℕ) → Facts h row → (months : ℕ) → PlanTerms (take (h.months + h.sizes - h.months) (drop h.months row)) (take months row)
terms_lent h row f months =
    record {
      weights_fit = rw (severity_lent h row) (omega (arith, f.weights_add));
      sizes_fit = simp length-take (omega (arith, f.head.sizes_fit));
      chances_fit = chances_parts h row f months;
    }

-- the levels that the months reach lie within the rows
pub levels_fit :
    (h : Head) (row : List ℕ) → length row ≡ row_length h → (months width : ℕ) → months ≤ h.months → width ≡ row_levels h.income h.opening h.months →
    largest_level h.income h.opening (length (take months row)) < width
levels_fit h row row_is months width l e =
    let count : length (take months row) ≡ months = length-take-le months row (omega arith) in
    rw count (omega (arith, level_later h.income h.opening months h.months l))

-- there is a row
pub some_row : (last : LastRows) (shape : Shape) (F : List ℕ) (tail : ℕ) → LastFits last shape F tail → 0 < shape.rows
unfolding LastFits
some_row Placed shape F tail h = h
some_row (Ruin P) shape F tail h = omega (arith, h.0)

-- what the last rows ask, and the value that they give, of the parts as they are lent
pub last_lent :
    (last : LastRows) (shape : Shape) (h : Head) (row : List ℕ) → LastFits last shape (plan_of h row).severity (plan_of h row).tail →
    LastFits last shape (take (h.months + h.sizes - h.months) (drop h.months row)) (get_or row (h.months + h.sizes) 0)
last_lent last shape h row fits = rw (severity_lent h row, tail_lent h row) fits

pub value_lent :
    (round : Rounding) (h : Head) (row : List ℕ) (months : ℕ) (shape : Shape) → shape.income ≡ h.income → (last : LastRows) (r : ℕ) → months ≤ h.months →
    r
    ≡ values (month round shape.income (take (h.months + h.sizes - h.months) (drop h.months row))) (rule_by shape)
    (last_rows last round shape.income (take (h.months + h.sizes - h.months) (drop h.months row)) (get_or row (h.months + h.sizes) 0)) (take months row)
    (shape.rows - 1) h.opening →
    r ≡ opening_value round (plan_of h row) months shape last
unfolding plan_of rule_by
value_lent round h row months shape earns last r l e =
    rw (earns, severity_lent h row, chances_lent h row months l) at e

-- what the row before a month that ruins needs, of an accepted plan and the shape of survive
pub ruin_fits :
    (h : Head) (row : List ℕ) → Facts h row → (i : ℕ) (shape : Shape) (width income : ℕ) → shape ≡ shape_of Survive width income →
    LastFits (Ruin (get_or row i 0)) shape (plan_of h row).severity (plan_of h row).tail
unfolding LastFits shape_of
ruin_fits h row f i shape width income e =
    (ap (λ (s : Shape). s.rows) e, record { weights_fit = omega (arith, f.weights_add); chance_fits = f.numbers_fit i })

-- the last rows in memory: where all claims are placed …
pub placed_in :
    (last : LastRows) → last ≡ Placed → (round : Rounding) (F : List ℕ) (tail : ℕ) (shape : Shape) (top : ℕ) (xs : List ℕ) → top < shape.width →
    ((level : ℕ) → level < shape.width → (k : ℕ) → k < shape.rows → (s : ℕ) → values_in shape level xs k s ≡ all_placed k s) →
    LastIn last round F tail shape top xs
unfolding last_rows past_last
placed_in last e round F tail shape top xs l h =
    record { each = λ k m s n. rw e (h top l k m s); past = λ k m i a b. rw e (rw sub-zero at (h i b k m 0)) }

-- … and before a ruin
pub ruin_terms : (last : LastRows) (P : ℕ) → last ≡ Ruin P → (shape : Shape) (F : List ℕ) (tail : ℕ) → LastFits last shape F tail → (shape.rows ≡ 1) × RuinTerms F tail P
unfolding LastFits
ruin_terms last P e shape F tail h = rw e at h

pub one_row : (shape : Shape) → shape.rows ≡ 1 → rows_size shape ≡ shape.width
one_row shape one = rw one (one-mul shape.width)

pub ruin_in :
    (last : LastRows) (P : ℕ) → last ≡ Ruin P → (round : Rounding) (F : List ℕ) (tail : ℕ) (shape : Shape) (top : ℕ) (xs xs' : List ℕ) → shape.rows ≡ 1 →
    xs' ≡ xs → Replaced 0 (top + 1) (λ i. ruin_row round shape.income F tail P (top - i)) (replicate shape.width 0) xs → LastIn last round F tail shape top xs'
unfolding last_rows past_last
ruin_in last P e round F tail shape top xs xs' one same h = record { each = each; past = past }
  where
    first : (k : ℕ) → k < shape.rows → (shape.rows - 1 - k) * shape.width ≡ 0
    first k l = let none : shape.rows - 1 - k ≡ 0 = omega arith in rw none (zero-mul shape.width)

    each : (k : ℕ) → k < shape.rows → (s : ℕ) → s ≤ top → values_in shape top xs' k s ≡ last_rows last round shape.income F tail k s
    each k l s m =
        let level : top - (top - s) ≡ s = omega arith in
        rw (e, same, first k l) (rw (zero-add, level) at (h.inside (top - s) (omega arith)))

    past : (k : ℕ) → k < shape.rows → (i : ℕ) → top < i → i < shape.width → get_or (drop ((shape.rows - 1 - k) * shape.width) xs') i 0 ≡ past_last last k
    past k l i a b = rw (e, same, first k l) (h.later i (omega arith) ∙ get_or-replicate shape.width i 0 0 b)

-- The value at the opening is the question's bound, where the question allows the opening and all months are worked …
pub bound_is :
    (round : Rounding) (h : Head) (row : List ℕ) → length row ≡ row_length h → (q : Question) → outside q ≡ false → opening_allowed q h.opening ≡ true →
    (width : ℕ) → width ≡ row_levels h.income h.opening h.months →
    opening_value round (plan_of h row) h.months (shape_of q width h.income) Placed ≡ bound round (plan_of h row) q
unfolding bound last_rows plan_of
bound_is round h row row_is q inside allowed width ew =
    let some_row : 0 < (shape_of q width h.income).rows = omega (arith, shape_rows q width h.income, rows_few q inside) in
    let months = horizon_is h row row_is in
    rw (take_all h.months (plan_of h row).chances (omega (arith, months)))
    (shape_value round h.income (plan_of h row).severity (plan_of h row).chances q (plan_of h row).opening (largest_level h.income h.opening h.months) width ew
    (rw months (le_refl (largest_level h.income h.opening h.months))) some_row all_placed (last_of q) (λ k l s. last_agree q width h.income k l s))
    ∙ sym (value_allowed (month round h.income (plan_of h row).severity) (plan_of h row) q allowed)

-- … which is 0 where the question forbids the opening, …
pub bound_none :
    (round : Rounding) (h : Head) (row : List ℕ) (q : Question) → opening_allowed q h.opening ≡ false → 0 ≡ bound round (plan_of h row) q
unfolding bound plan_of
bound_none round h row q forbidden = sym (value_forbidden (month round h.income (plan_of h row).severity) (plan_of h row) q forbidden)

-- the chance of a month, as it lies in the row
pub chance_is : (h : Head) (row : List ℕ) (t : ℕ) → 0 < t → t ≤ h.months → get_or row (t - 1) 0 ≡ nth (plan_of h row).chances t
unfolding nth plan_of
chance_is h row zero some l = absurd (omega arith)
chance_is h row (suc i) some l =
    let index : suc i - 1 ≡ i = omega arith in
    rw index (sym (get_or-take h.months row i 0 l))

-- … and that of ruin in a month, where the months before it are.
pub ruin_bound_is :
    (round : Rounding) (h : Head) (row : List ℕ) → length row ≡ row_length h → (t : ℕ) → 0 < t → t ≤ h.months →
    (width : ℕ) → width ≡ row_levels h.income h.opening h.months → (P : ℕ) → P ≡ get_or row (t - 1) 0 →
    opening_value round (plan_of h row) (t - 1) (shape_of Survive width h.income) (Ruin P) ≡ ruin_bound round (plan_of h row) t
unfolding ruin_bound carried_back last_rows plan_of rows_needed
ruin_bound_is round h row row_is t some l width ew P eP =
    let months = horizon_is h row row_is in
    let early : length (take (t - 1) (plan_of h row).chances) ≡ t - 1 = length-take-le (t - 1) (plan_of h row).chances (omega arith) in
    rw (eP ∙ chance_is h row t some l)
    (shape_value round h.income (plan_of h row).severity (take (t - 1) (plan_of h row).chances) Survive (plan_of h row).opening (largest_level h.income h.opening h.months)
    width ew (earlier (length (take (t - 1) (plan_of h row).chances)) (omega arith)) (rw (shape_rows Survive width h.income) one_row) _ _ (λ k m s. refl))
  where
    earlier : (n : ℕ) → n ≤ h.months → largest_level h.income (plan_of h row).opening n ≤ largest_level h.income h.opening h.months
    earlier n m = level_later h.income h.opening n h.months m

    one_row : 0 < rows_needed Survive
    one_row = omega arith
