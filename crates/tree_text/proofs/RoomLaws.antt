-- How long the text of a tree can get, by any measure of texts that adds up: its bytes, and its lines.
use Prim.Native.Nat.{ℕ, zero, suc, ◌+◌, ◌*◌, ◌-◌, ◌/◌, ◌≤◌, zero-le, ◌<◌, min}
use mathlib.Core.Path.{◌≡◌, refl, sym, ◌∙◌, ap}
use mathlib.Core.Bool.{Bool, true, false, cond}
use mathlib.Core.List.{List, [], ◌∷◌, ◌++◌}
use mathlib.Core.Option.{Option, none, some}
use native.Mathlib.Nat.{mul-le-mul_right, mul-le-mul, add-mul, suc-mul, mul_assoc, mul_comm, le_trans}
use native.Mathlib.Omega.{arith}
use lib.Dec.{leb, ltb}
use lib.ListN.{length, get_or, drop, length-append}
use lib.Seq.{get_or-drop}
use borrow.Author.Tests.{ne_eqb}
use Rattle.model.specs.declared.Question.{Question}
use Rattle.model.specs.declared.Question.TheVariants.{Survive, Both, High, Low}
use Rattle.model.specs.declared.Rounding.{Rounding}
use Rattle.model.specs.declared.Rounding.TheVariants.{Down, Up}
use Rattle.model.specs.Limits.{small_income, max_small_months, max_small_opening}
use Rattle.model.specs.Scale.{S}
use Rattle.model.specs.Sums.{total, count}
use Rattle.model.specs.Plan.{nth}
use Rattle.model.specs.MonthRule.{rule_of, last_of, claims_of, opening_allowed, ruin_weight}
use Rattle.model.proofs.SumLaws.{count_append}
use Rattle.model.proofs.Month.{nth_le_total}
use Rattle.model.proofs.Values.{kept_fits, values_fit, last_fits}
use Rattle.model.proofs.FirstRuin.{ruin_weight_fits}
use Rattle.text.specs.Text.{ascii, last_digit, digits, decimal, spaced, joined, entry, line}
use Rattle.text.proofs.TextLaws.{decimal_few}
use Rattle.tree_nodes.specs.Nodes.{node_allowed, reached}
use Rattle.tree_nodes.proofs.Theorems.{after_claim_near}
use Rattle.tree_text.specs.Tree.{small_plan, node_if, node_after, level_text, level_down, month_text}
use Rattle.tree_text.specs.Rooms.{level_lines, month_lines, tree_line_room, text_room, lines_in}
use Rattle.tree_text.specs.Terms.{SmallTerms}
use Rattle.tree_values.specs.Lines.{node_value, left_text, place_text, value_text, claimed_text, claim_text, claim_each, claim_texts, branch_texts, node_text}

-- the lines of one level more
lines_more : (n k : ℕ) → level_lines (suc n) * k ≡ level_lines n * k + (n + 4) * k
unfolding level_lines
lines_more n k = add-mul (level_lines n) (n + 4) k

pub lines_rise : (m n : ℕ) → m ≤ n → level_lines m ≤ level_lines n
unfolding level_lines
lines_rise zero n l = zero-le
lines_rise (suc m) zero l = absurd (omega arith)
lines_rise (suc m) (suc n) l = omega (arith, lines_rise m n (omega arith))

-- a measure of texts
pub record Measure (μ : List ℕ → ℕ) : Type 0 where
  pub nothing : μ [] ≡ 0
  pub both : (t u : List ℕ) → μ (t ++ u) ≡ μ t + μ u

-- What the parts of a line come to: a number below 100 and one of at most S, each after its space, what may stand between a level and its value, and each kind of line.
pub record Costs (μ : List ℕ → ℕ) (line_cost small large between : ℕ) : Type 0 where
  pub measure : Measure μ
  pub small_fits : (n : ℕ) → n < 100 → μ (spaced n) ≤ small
  pub large_fits : (n : ℕ) → n ≤ S → μ (spaced n) ≤ large
  pub left_fits : μ (ascii " left") + small ≤ between
  pub forbidden_fits : μ (ascii " forbidden") ≤ between
  pub node_fits : μ (ascii "month") + small + (μ (ascii " level") + small + between + large + large + μ (ascii "\n")) ≤ line_cost
  pub chance_fits : μ (ascii "  chance") + large + μ (ascii "\n") ≤ line_cost
  pub quiet_fits : μ (ascii "  no claim level") + small + between + large + large + μ (ascii "\n") ≤ line_cost
  pub claim_fits : μ (ascii "  claim") + small + (μ (ascii " weight") + large) + (μ (ascii " level") + small + between + large + large + μ (ascii "\n")) ≤ line_cost
  pub none_fits : μ (ascii "  claim") + small + (μ (ascii " weight") + large) + (μ (ascii " none left") + small + small + μ (ascii "\n")) ≤ line_cost
  pub ruin_fits : μ (ascii "  ruin weight") + large + μ (ascii "\n") ≤ line_cost

module _ {μ : List ℕ → ℕ} {b small large between : ℕ} (c : Costs μ b small large between) where
  m : Measure μ
  m = c.measure

  entry_cost : (word : List ℕ) (x : ℕ) → μ (entry word (x ∷ [])) ≡ μ word + μ (spaced x)
  unfolding entry joined
  entry_cost word x = m.both word (spaced x)

  pub line_cost_one : (word : List ℕ) (x : ℕ) → μ (line word (x ∷ [])) ≡ μ word + μ (spaced x) + μ (ascii "\n")
  unfolding line
  line_cost_one word x = m.both (entry word (x ∷ [])) (ascii "\n") ∙ ap (λ (n : ℕ). n + μ (ascii "\n")) (entry_cost word x)

  entry_cost_two : (word : List ℕ) (x y : ℕ) → μ (entry word (x ∷ y ∷ [])) ≡ μ word + (μ (spaced x) + μ (spaced y))
  unfolding entry joined
  entry_cost_two word x y = m.both word (spaced x ++ spaced y) ∙ ap (λ (n : ℕ). μ word + n) (m.both (spaced x) (spaced y))

  line_cost_two : (word : List ℕ) (x y : ℕ) → μ (line word (x ∷ y ∷ [])) ≡ μ word + (μ (spaced x) + μ (spaced y)) + μ (ascii "\n")
  unfolding line
  line_cost_two word x y = m.both (entry word (x ∷ y ∷ [])) (ascii "\n") ∙ ap (λ (n : ℕ). n + μ (ascii "\n")) (entry_cost_two word x y)

  -- what may be left out costs no more than what it is
  at_most : (b : Bool) (t : List ℕ) (n : ℕ) → μ t ≤ n → μ (cond b t []) ≤ n
  at_most true t n h = h
  at_most false t n h = omega (arith, m.nothing)

  forbidden_or : (b : Bool) → μ (cond b [] (ascii " forbidden")) ≤ between
  forbidden_or true = omega (arith, m.nothing)
  forbidden_or false = c.forbidden_fits

  joined_cost : (f : ℕ → List ℕ) (n each : ℕ) → ((i : ℕ) → i < n → μ (f i) ≤ each) → μ (joined n f) ≤ n * each
  unfolding joined
  joined_cost f zero each h = omega (arith, m.nothing)
  joined_cost f (suc n) each h = omega (arith, m.both (joined n f) (f n), joined_cost f n each (λ i l. h i (omega arith)), h n (omega arith), suc-mul n each)

  -- only both counts claims, and it forbids no level
  between_cost : (q : Question) (t k s : ℕ) → k < 100 → μ (left_text q k) + μ (cond (node_allowed q t s) [] (ascii " forbidden")) ≤ between
  unfolding left_text node_allowed opening_allowed rule_of
  between_cost Survive zero k s l = omega (arith, m.nothing)
  between_cost Survive (suc t) k s l = omega (arith, m.nothing)
  between_cost (Both j) zero k s l = omega (arith, m.nothing, entry_cost (ascii " left") k, c.small_fits k l, c.left_fits)
  between_cost (Both j) (suc t) k s l = omega (arith, m.nothing, entry_cost (ascii " left") k, c.small_fits k l, c.left_fits)
  between_cost (High L) zero k s l = omega (arith, m.nothing, forbidden_or (leb s L))
  between_cost (High L) (suc t) k s l = omega (arith, m.nothing, forbidden_or (leb s L))
  between_cost (Low L) zero k s l = omega (arith, m.nothing)
  between_cost (Low L) (suc t) k s l = omega (arith, m.nothing, forbidden_or (leb L s))

  module _ (q : Question) (F : List ℕ) (tail : ℕ) (weights : total F + tail ≤ S) (each : (x : ℕ) → nth F x ≤ S) where
    value_fits : (round : Rounding) (t : ℕ) (Ps : List ℕ) → ((i : ℕ) → get_or Ps i 0 ≤ S) → (k s : ℕ) → node_value round q F t Ps k s ≤ S
    unfolding node_value
    value_fits round t Ps fits k s =
        kept_fits (node_allowed q t) _ s (values_fit round small_income F (omega (arith, weights)) (rule_of q) (last_of q) (last_fits q) Ps fits k s)

    -- a node after a word
    value_cost :
        (word : List ℕ) (t : ℕ) (Ps : List ℕ) → ((i : ℕ) → get_or Ps i 0 ≤ S) → (k s : ℕ) → k < 100 → s < 100 →
        μ (value_text word q F t Ps k s) ≤ μ word + small + between + large + large + μ (ascii "\n")
    unfolding value_text place_text
    value_cost word t Ps fits k s lk ls =
        let low = c.large_fits (node_value Down q F t Ps k s) (value_fits Down t Ps fits k s) in
        let high = c.large_fits (node_value Up q F t Ps k s) (value_fits Up t Ps fits k s) in
        omega (
          arith,
          m.both (entry word (s ∷ []) ++ left_text q k) (line (cond (node_allowed q t s) [] (ascii " forbidden")) (node_value Down q F t Ps k s ∷ node_value Up q F t Ps k s ∷ [])),
          m.both (entry word (s ∷ [])) (left_text q k),
          entry_cost word s,
          line_cost_two (cond (node_allowed q t s) [] (ascii " forbidden")) (node_value Down q F t Ps k s) (node_value Up q F t Ps k s),
          c.small_fits s ls,
          low,
          high,
          between_cost q t k s lk,
        )

    first_cost :
        (x : ℕ) → x < 100 → (rest : List ℕ) →
        μ (entry (ascii "  claim") (x ∷ []) ++ entry (ascii " weight") (nth F x ∷ []) ++ rest) ≤ μ (ascii "  claim") + small + (μ (ascii " weight") + large) + μ rest
    first_cost x lx rest =
        omega (
          arith,
          m.both (entry (ascii "  claim") (x ∷ []) ++ entry (ascii " weight") (nth F x ∷ [])) rest,
          m.both (entry (ascii "  claim") (x ∷ [])) (entry (ascii " weight") (nth F x ∷ [])),
          entry_cost (ascii "  claim") x,
          entry_cost (ascii " weight") (nth F x),
          c.small_fits x lx,
          c.large_fits (nth F x) (each x),
        )

    -- what a claim leads to
    claimed_cost :
        (t : ℕ) (Ps : List ℕ) → ((i : ℕ) → get_or Ps i 0 ≤ S) → (o : Option ℕ) → ((j : ℕ) → o ≡ some j → j < 100) → (s x : ℕ) → s < 100 → x < 100 →
        μ (entry (ascii "  claim") (x ∷ []) ++ entry (ascii " weight") (nth F x ∷ []) ++ claimed_text q F t Ps o s) ≤ b
    unfolding claimed_text
    claimed_cost t Ps fits none few s x ls lx =
        omega (
          arith,
          first_cost x lx (line (ascii " none left") (0 ∷ 0 ∷ [])),
          line_cost_two (ascii " none left") 0 0,
          c.small_fits 0 (omega arith),
          c.none_fits,
        )
    claimed_cost t Ps fits (some j) few s x ls lx =
        omega (arith, first_cost x lx (value_text (ascii " level") q F t Ps j s), value_cost (ascii " level") t Ps fits j s (few j refl) ls, c.claim_fits)

    claim_cost :
        (t : ℕ) (later : List ℕ) → ((i : ℕ) → get_or later i 0 ≤ S) → (k s x : ℕ) → k < 100 → s + small_income < 100 → x < 100 → μ (claim_text q F t later k s x) ≤ b
    unfolding claim_text
    claim_cost t later fits k s x lk ls lx =
        at_most (ltb 0 (nth F x)) _ b
        (claimed_cost (suc t) later fits ((rule_of q).after_claim k) (λ j e. omega (arith, lk, (after_claim_near q k j e).0)) (s + small_income - x) x (omega (arith, ls)) lx)

    -- the lines below a node, and all of its lines
    branch_cost :
        (t : ℕ) (Ps : List ℕ) → ((i : ℕ) → get_or Ps i 0 ≤ S) → (k s : ℕ) → k < 100 → s + small_income < 100 → μ (branch_texts q F tail t Ps k s) ≤ (s + 3) * b
    unfolding branch_texts
    branch_cost t [] fits k s lk ls = omega (arith, m.nothing)
    branch_cost t (P ∷ later) fits k s lk ls =
        let later_fits : (i : ℕ) → get_or later i 0 ≤ S = λ i. fits (suc i) in
        let chance = line (ascii "  chance") (P ∷ []) in
        let quiet = value_text (ascii "  no claim level") q F (suc t) later k (s + small_income) in
        let claims = claim_texts q F t later k s in
        let ruins = line (ascii "  ruin weight") (ruin_weight F tail (s + small_income) ∷ []) in
        let range : min s (length F) ≤ s = omega arith in
        let sizes : μ claims ≤ s * b =
        le_trans (joined_cost (claim_each q F t later k s) (min s (length F)) b (λ i l. claim_cost t later later_fits k s (suc i) lk ls (omega (arith, ls))))
        (mul-le-mul_right b range) in
        omega (
          arith,
          m.both (chance ++ quiet ++ claims) ruins,
          m.both (chance ++ quiet) claims,
          m.both chance quiet,
          line_cost_one (ascii "  chance") P,
          c.large_fits P (fits 0),
          c.chance_fits,
          value_cost (ascii "  no claim level") (suc t) later later_fits k (s + small_income) lk ls,
          c.quiet_fits,
          line_cost_one (ascii "  ruin weight") (ruin_weight F tail (s + small_income)),
          c.large_fits (ruin_weight F tail (s + small_income)) (ruin_weight_fits F tail weights (s + small_income)),
          c.ruin_fits,
          sizes,
          add-mul s 3 b,
        )

    pub node_cost :
        (t : ℕ) (Ps : List ℕ) → ((i : ℕ) → get_or Ps i 0 ≤ S) → (k s : ℕ) → t < 100 → k < 100 → s + small_income < 100 → μ (node_text q F tail t Ps k s) ≤ (s + 4) * b
    unfolding node_text
    node_cost t Ps fits k s lt lk ls =
        let own = value_text (ascii " level") q F t Ps k s in
        let below = branch_texts q F tail t Ps k s in
        omega (
          arith,
          m.both (entry (ascii "month") (t ∷ []) ++ own) (cond (node_allowed q t s) below []),
          m.both (entry (ascii "month") (t ∷ [])) own,
          entry_cost (ascii "month") t,
          c.small_fits t lt,
          value_cost (ascii " level") t Ps fits k s lk (omega (arith, ls)),
          c.node_fits,
          at_most (node_allowed q t s) below ((s + 3) * b) (branch_cost t Ps fits k s lk ls),
          add-mul s 3 b,
          add-mul s 4 b,
        )

  -- the nodes at a level, and those of a month
  module _ {q : Question} {u : ℕ} {Ps F : List ℕ} {tail t : ℕ} (h : SmallTerms q u Ps F tail t) where
    each_weight : (x : ℕ) → nth F x ≤ S
    each_weight x = omega (arith, nth_le_total F x, h.weights_fit)

    level_cost : (s : ℕ) → s ≤ u + t → μ (level_text q (small_plan u Ps F tail) t s) ≤ (s + 4) * ((t + 1) * b)
    unfolding node_if
    level_cost s l =
        let nodes =
        joined_cost (node_after q (small_plan u Ps F tail) t s) (min t (claims_of q) + 1) ((s + 4) * b)
        (λ j _. at_most (reached q (small_plan u Ps F tail) t (claims_of q - j) s) (node_text q F tail t (drop t Ps) (claims_of q - j) s) ((s + 4) * b)
        (node_cost q F tail h.weights_fit each_weight t (drop t Ps) (λ i. rw get_or-drop (h.chances_fit (t + i))) (claims_of q - j) s
        (omega (arith, h.ended, h.months_few)) (omega (arith, h.claims_few)) (omega (arith, l, h.ended, h.months_few, h.opening_low)))) in
        let few : min t (claims_of q) + 1 ≤ t + 1 = omega arith in
        let turned : (t + 1) * ((s + 4) * b) ≡ (s + 4) * ((t + 1) * b) =
        sym (mul_assoc (t + 1) (s + 4) b) ∙ ap (λ (n : ℕ). n * b) (mul_comm (t + 1) (s + 4)) ∙ mul_assoc (s + 4) (t + 1) b in
        omega (arith, nodes, mul-le-mul_right ((s + 4) * b) few, turned)

    down_cost :
        (n : ℕ) → n ≤ u + t + 1 →
        μ (joined n (level_down q (small_plan u Ps F tail) t)) + level_lines (u + t + 1 - n) * ((t + 1) * b) ≤ level_lines (u + t + 1) * ((t + 1) * b)
    unfolding joined
    down_cost zero l = let all : u + t + 1 - 0 ≡ u + t + 1 = omega arith in rw all (omega (arith, m.nothing))
    down_cost (suc n) l =
        let rest : u + t + 1 - n ≡ suc (u + t - n) = omega arith in
        let left : u + t + 1 - suc n ≡ u + t - n = omega arith in
        let more : level_lines (u + t + 1 - n) * ((t + 1) * b) ≡ level_lines (u + t - n) * ((t + 1) * b) + (u + t - n + 4) * ((t + 1) * b) =
        ap (λ (k : ℕ). level_lines k * ((t + 1) * b)) rest ∙ lines_more (u + t - n) ((t + 1) * b) in
        rw left
        (omega (arith, m.both (joined n (level_down q (small_plan u Ps F tail) t)) (level_down q (small_plan u Ps F tail) t n), down_cost n (omega arith), more, level_cost (u + t - n) (omega arith)))

    pub month_cost : μ (month_text q (small_plan u Ps F tail) t) ≤ month_lines t * b
    unfolding month_text
    month_cost =
        let all = down_cost (u + t + 1) (omega arith) in
        let risen = lines_rise (u + t + 1) (max_small_opening + t + 1) (omega (arith, h.opening_low)) in
        let turned : level_lines (max_small_opening + t + 1) * ((t + 1) * b) ≡ month_lines t * b =
        sym (mul_assoc (level_lines (max_small_opening + t + 1)) (t + 1) b) ∙ ap (λ (n : ℕ). n * b) (mul_comm (level_lines (max_small_opening + t + 1)) (t + 1)) in
        omega (arith, all, mul-le-mul_right ((t + 1) * b) risen, turned)

-- the bytes of a text
pub byte_costs : Costs length tree_line_room 3 11 10
unfolding S
byte_costs =
    record {
      measure = record { nothing = refl; both = length-append };
      small_fits = λ n l. omega (arith, decimal_few 1 n l);
      large_fits = λ n l. omega (arith, decimal_few 9 n (omega (arith, l)));
      left_fits = omega arith;
      forbidden_fits = omega arith;
      node_fits = omega arith;
      chance_fits = omega arith;
      quiet_fits = omega arith;
      claim_fits = omega arith;
      none_fits = omega arith;
      ruin_fits = omega arith;
    }

-- each part of a tree has room
pub month_room :
    {q : Question} {u : ℕ} {Ps F : List ℕ} {tail t : ℕ} → SmallTerms q u Ps F tail t → length (month_text q (small_plan u Ps F tail) t) ≤ text_room
month_room {t = t} h =
    let early : t ≤ max_small_months = omega (arith, h.ended, h.months_few) in
    let lines : month_lines t ≤ month_lines max_small_months = mul-le-mul (omega arith) (lines_rise (max_small_opening + t + 1) (max_small_opening + max_small_months + 1) (omega arith)) in
    le_trans (month_cost byte_costs h) (mul-le-mul_right tree_line_room lines)

-- the lines of a text, each of which ends with a newline; a number has none
pub lines_append : (t u : List ℕ) → lines_in (t ++ u) ≡ lines_in t + lines_in u
unfolding lines_in
lines_append t u = count_append _ t u

one_line : (small : Bool) (tens : List ℕ) → lines_in tens ≡ 0 → lines_in (cond small [] tens) ≡ 0
unfolding lines_in count
one_line true tens e = refl
one_line false tens e = e

digits_one_line : (places n : ℕ) → lines_in (digits places n) ≡ 0
unfolding digits lines_in count
digits_one_line zero n = refl
digits_one_line (suc places) n =
    let last : lines_in (last_digit n ∷ []) ≡ 0 = rw (ne_eqb (last_digit n) 10 (λ e. omega (arith, e))) in
    omega (arith, lines_append (cond (ltb n 10) [] (digits places (n / 10))) (last_digit n ∷ []), one_line (ltb n 10) (digits places (n / 10)) (digits_one_line places (n / 10)), last)

space_one_line : lines_in (ascii " ") ≡ 0
unfolding lines_in count
space_one_line = refl

pub number_one_line : (n : ℕ) → lines_in (spaced n) ≡ 0
unfolding decimal
number_one_line n = omega (arith, lines_append (ascii " ") (digits 20 n), digits_one_line 20 n, space_one_line)

pub line_costs : Costs lines_in 1 0 0 0
unfolding lines_in count
line_costs =
    record {
      measure = record { nothing = refl; both = lines_append };
      small_fits = λ n l. omega (arith, number_one_line n);
      large_fits = λ n l. omega (arith, number_one_line n);
      left_fits = omega arith;
      forbidden_fits = omega arith;
      node_fits = omega arith;
      chance_fits = omega arith;
      quiet_fits = omega arith;
      claim_fits = omega arith;
      none_fits = omega arith;
      ruin_fits = omega arith;
    }
