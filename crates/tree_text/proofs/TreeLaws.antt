-- Laws of the tree's text: its parts in each case, and what the nodes take.
use Prim.Native.Nat.{ℕ, ◌+◌, ◌-◌, ◌≤◌, ◌<◌, min}
use mathlib.Core.Path.{◌≡◌}
use mathlib.Core.Bool.{true, false}
use mathlib.Core.List.{List, []}
use native.Mathlib.Omega.{arith}
use lib.ListN.{length, get_or, take, drop, length-drop}
use lib.Seq.{get_or-drop, take_all, length-take-le}
use borrow.Author.Tests.{ne_eqb, le-leb, lt-leb, ltb-false}
use Rattle.model.specs.declared.Head.{Head}
use Rattle.model.specs.declared.Ask.{Ask}
use Rattle.model.specs.declared.Question.{Question}
use Rattle.model.specs.declared.Question.TheVariants.{Survive, Both, High, Low}
use Rattle.model.specs.Limits.{row_room, max_claims}
use Rattle.model.specs.Scale.{S}
use Rattle.model.specs.Sums.{total}
use Rattle.model.specs.Plan.{Plan, plan_of}
use Rattle.model.specs.MonthRule.{claims_of}
use Rattle.model.specs.Format.{head_of, row_of}
use Rattle.model.specs.Refusal.{Accepted, outside, read_refusal}
use Rattle.model.proofs.Facts.{facts}
use Rattle.model.proofs.Values.{take_fits}
use Rattle.engine.proofs.AnswerLaws.{severity_lent}
use Rattle.text.specs.Text.{joined, Appended}
use Rattle.text.proofs.TextLaws.{Appending, appending_start, appending_room, appending_turn}
use Rattle.report_lines.specs.Lines.{refused_line}
use Rattle.plain_engine.specs.Answers.{plain_refusal}
use Rattle.plain_engine.proofs.Theorems.{Taken, taken}
use Rattle.plain_engine.specs.Steps.{Terms}
use Rattle.tree_nodes.specs.Nodes.{reached}
use Rattle.tree_values.specs.Lines.{node_text}
use Rattle.tree_text.specs.Tree.{small_plan, node_if, level_text, month_text, first_part, plan_part, accepted_part, tree_part}
use Rattle.tree_text.specs.Terms.{SmallTerms}

-- a refusal is the part of no months, and no other
pub first_is : (t : ℕ) (text : List ℕ) → t ≡ 0 → first_part t text ≡ text
unfolding first_part
first_is t text e = rw e

pub later_empty : (t : ℕ) (text : List ℕ) → (t ≡ 0 → ⊥) → first_part t text ≡ []
unfolding first_part
later_empty t text ne = rw (ne_eqb t 0 ne)

-- a node that is reached, and one that is not
module _ (q : Question) (p : Plan) (t s k : ℕ) where
  pub node_on : reached q p t k s ≡ true → node_if q p t s k ≡ node_text q p.severity p.tail t (drop t p.chances) k s
  unfolding node_if
  node_on e = rw e

  pub node_off : reached q p t k s ≡ false → node_if q p t s k ≡ []
  unfolding node_if
  node_off e = rw e

-- the chances to come, as they are lent
pub later_lent : (t : ℕ) (Ps : List ℕ) → take (length Ps - t) (drop t Ps) ≡ drop t Ps
later_lent t Ps = take_all (length Ps - t) (drop t Ps) (omega (arith, length-drop t Ps))

-- what a node takes
pub node_terms :
    {q : Question} {u : ℕ} {Ps F : List ℕ} {tail t : ℕ} → SmallTerms q u Ps F tail t → (s : ℕ) → s ≤ u + t → Terms F (drop t Ps) s
node_terms {q} {u} {Ps} {F} {tail} {t} h s l =
    record {
      weights_fit = omega (arith, h.weights_fit);
      chances_fit = λ i. rw get_or-drop (h.chances_fit (t + i));
      levels_fit = omega (arith, length-drop t Ps, h.months_few, h.opening_low, h.ended);
    }

-- A loop that goes down from the highest number: before the turn of x, the texts of those above it are appended.
abbrev pub falling : (ℕ → List ℕ) → ℕ → ℕ → List ℕ
falling f top i = f (top - i)

pub record Falling (f : ℕ → List ℕ) (top n : ℕ) (b : List ℕ) (at : ℕ) (b' : List ℕ) (end x : ℕ) : Type 0 where
  pub done : Appending (falling f top) n b at b' end (top - x)

pub falling_start : {f : ℕ → List ℕ} {n : ℕ} {b : List ℕ} {at : ℕ} (top : ℕ) → at ≤ length b → Falling f top n b at b at top
falling_start top h = let none : top - top ≡ 0 = omega arith in record { done = rw none (appending_start h) }

module _ {f : ℕ → List ℕ} {n : ℕ} {b b' : List ℕ} {at end top x : ℕ} (p : Falling f top n b at b' end x) (low : x ≤ top) (h : top - x < n) where
  pub falling_room : at + length (joined n (falling f top)) ≤ length b → end + length (f x) ≤ length b'
  falling_room room = let here : top - (top - x) ≡ x = omega arith in rw here at (appending_room p.done h room)

  pub falling_turn : {b'' : List ℕ} {end' : ℕ} → length b'' ≡ length b' → Appended b' end (f x) b'' end' → Appending (falling f top) n b at b'' end' (top - x + 1)
  falling_turn same q = let here : top - (top - x) ≡ x = omega arith in appending_turn p.done h same (rw here q)

pub falling_on :
    {f : ℕ → List ℕ} {n : ℕ} {b b' : List ℕ} {at end top x : ℕ} → 0 < x → x ≤ top → Appending (falling f top) n b at b' end (top - x + 1) → Falling f top n b at b' end (x - 1)
falling_on {top = top} {x = x} some low h = let next : top - (x - 1) ≡ top - x + 1 = omega arith in record { done = rw next h }

-- the nodes of a level, from so many claims to place down to those that so many months leave
pub level_nodes :
    (q : Question) (p : Plan) (t s most least : ℕ) → most ≡ claims_of q → least ≡ most - t →
    level_text q p t s ≡ joined (most - least + 1) (falling (node_if q p t s) most)
level_nodes q p t s most least em el =
    let count : claims_of q - (claims_of q - t) ≡ min t (claims_of q) = omega arith in
    rw (el, em, count)

-- a question within its limits has few claims to place
claims_within : (q : Question) → outside q ≡ false → claims_of q ≤ max_claims
unfolding outside claims_of
claims_within Survive e = omega arith
claims_within (Both k) e = ltb-false max_claims k e
claims_within (High L) e = omega arith
claims_within (Low L) e = omega arith

weights : (h : Head) (row : List ℕ) → total (plan_of h row).severity + (plan_of h row).tail ≡ S → total (plan_of h row).severity + get_or row (h.months + h.sizes) 0 ≤ S
unfolding plan_of
weights h row e = omega (arith, e)

-- the part of a plan's bytes: refused by reading, or that of the plan
module _ (q : Question) (bytes : List ℕ) (t : ℕ) where
  pub part_refused : (n : ℕ) → n ≡ read_refusal bytes row_room → (n ≡ 0 → ⊥) → tree_part q bytes t ≡ first_part t (refused_line n)
  unfolding tree_part
  part_refused n e ne = rw (← e, ne_eqb n 0 ne)

  pub part_read : read_refusal bytes row_room ≡ 0 → tree_part q bytes t ≡ accepted_part q (head_of bytes) (row_of bytes) t
  unfolding tree_part
  part_read e = rw e

-- the part of an accepted plan: refused by the plain engine, beyond its months, or the nodes of a month
module _ (q : Question) (h : Head) (row : List ℕ) (t : ℕ) where
  abbrev a : Ask
  a = record { head = h; question = q }

  pub accepted_refused : (n : ℕ) → n ≡ plain_refusal a row → (n ≡ 0 → ⊥) → accepted_part q h row t ≡ first_part t (refused_line n)
  unfolding accepted_part
  accepted_refused n e ne = rw (← e, ne_eqb n 0 ne)

  pub beyond_months : plain_refusal a row ≡ 0 → h.months < t → accepted_part q h row t ≡ []
  unfolding accepted_part plan_part
  beyond_months e l = rw (e, lt-leb t h.months l)

  pub month_lent :
      plain_refusal a row ≡ 0 → t ≤ h.months →
      accepted_part q h row t
      ≡ month_text q (small_plan h.opening (take h.months row) (take (h.months + h.sizes - h.months) (drop h.months row)) (get_or row (h.months + h.sizes) 0)) t
  unfolding accepted_part plan_part plan_of
  month_lent e l = rw (e, le-leb t h.months l, (taken a row e).earns, severity_lent h row)

  -- what its nodes take
  pub terms_lent :
      Taken a row → t ≤ h.months →
      SmallTerms q h.opening (take h.months row) (take (h.months + h.sizes - h.months) (drop h.months row)) (get_or row (h.months + h.sizes) 0) t
  terms_lent known l =
      let f = facts h row known.accepted in
      let count : length (take h.months row) ≡ h.months = length-take-le h.months row (omega (arith, f.row_is)) in
      record {
        weights_fit = rw (severity_lent h row) (weights h row f.weights_add);
        chances_fit = take_fits S h.months row f.numbers_fit;
        months_few = omega (arith, count, known.months_few);
        opening_low = known.opening_low;
        ended = omega (arith, count);
        claims_few = claims_within q known.inside;
      }

-- a plan that is accepted, by another name
pub accepted_as : {h h' : Head} {row row' : List ℕ} → h ≡ h' → row ≡ row' → Accepted h' row' → Accepted h row
accepted_as eh er accepted = rw (eh, er) accepted

pub part_as : (q : Question) {h h' : Head} {row row' : List ℕ} (t : ℕ) → h ≡ h' → row ≡ row' → accepted_part q h' row' t ≡ accepted_part q h row t
part_as q t eh er = rw (eh, er)
