-- Laws of asking on an accepted plan: what the engine answers, and what any number of questions leave of the workspace. Assumes nothing.
use Prim.Native.Nat.{ℕ, ◌+◌, max, ◌≤◌}
use mathlib.Core.Path.{◌≡◌, refl, sym, ap, ◌∙◌}
use mathlib.Core.Bool.{Bool, false}
use mathlib.Core.List.{List}
use native.Mathlib.Numerals.{add-one}
use native.Mathlib.Omega.{arith}
use native.Mathlib.Nat.{max-le}
use lib.ListN.{length, length-append, length-replicate, length-drop}
use Rattle.model.specs.declared.Head.{Head}
use Rattle.model.specs.declared.Ask.{Ask}
use Rattle.model.specs.declared.Question.{Question}
use Rattle.model.specs.declared.Question.TheVariants.{Survive}
use Rattle.model.specs.Limits.{workspace_room}
use Rattle.model.specs.Plan.{plan_of}
use Rattle.model.specs.Bounds.{lower, upper, ruin_lower, ruin_upper}
use Rattle.model.specs.Refusal.{outside, month_outside, workspace_needed, survival_workspace, bounds_refusal}
use Rattle.model.proofs.Facts.{accepted_head}
use Rattle.model.proofs.Rooms.{workspace_fits}
use Rattle.model.proofs.MemoryLaws.{filled, zero_more}
use Rattle.model.proofs.RefusalNumbers.{not_accepted}
use Rattle.model.specs.declared.Bounds.{Bounds}
use Rattle.model.specs.declared.refusal.Refusal.{Refusal}
use Rattle.std.specs.Prelude.{Result, Ok, Err, IsOk}
use Rattle.engine.specs.Answers.{Answer, answer_result, bounds_answer, answer, workspace_after, ruin_answer, ruin_workspace_after}
use Rattle.model.specs.Memory.{zero_first, cleared_after}
use Rattle.questions.proofs.RefusalLaws.{not_refused}
use Rattle.report_lines.specs.Asking.{Answerable, question_needs, workspace_left, largest_of, Cleared}

-- no question asked
pub nothing_cleared : (ws : List ℕ) → Cleared 0 ws ws
nothing_cleared ws = record { inside = omega arith; is = refl }

pub cleared_none : (f : ℕ → ℕ) (ws : List ℕ) → Cleared (largest_of 0 f) ws ws
unfolding largest_of
cleared_none f ws = nothing_cleared ws

-- some questions after others, and one more of those that are asked one by one
pub cleared_more : {m n : ℕ} {b₀ b₁ b₂ : List ℕ} → Cleared m b₀ b₁ → Cleared n b₁ b₂ → Cleared (max n m) b₀ b₂
cleared_more {m} {n} {b₀} p q =
    record { inside = max-le q.inside p.inside; is = q.is ∙ ap (zero_first n) p.is ∙ zero_more n m b₀ }

pub cleared_turn : (f : ℕ → ℕ) {i : ℕ} {b₀ b₁ b₂ : List ℕ} → Cleared (largest_of i f) b₀ b₁ → Cleared (f i) b₁ b₂ → Cleared (largest_of (i + 1) f) b₀ b₂
unfolding largest_of
cleared_turn f p q = rw add-one (cleared_more p q)

-- all of them asked
pub cleared_all : (f : ℕ → ℕ) {i n : ℕ} {b b' : List ℕ} → i ≡ n → Cleared (largest_of i f) b b' → Cleared (largest_of n f) b b'
cleared_all f e p = rw (← e) p

-- a workspace with room for every question keeps its length, and the next can be asked
pub cleared_long : {n : ℕ} {b b' : List ℕ} → workspace_room ≤ length b → Cleared n b b' → length b' ≡ length b
cleared_long room p =
    let inside = p.inside in
    ap length p.is ∙ (simp (length-append, length-replicate, length-drop) (omega arith))

pub room_still : {n : ℕ} {b b' : List ℕ} → workspace_room ≤ length b → Cleared n b b' → workspace_room ≤ length b'
room_still room p = omega (arith, cleared_long room p)

pub answerable_still : {h : Head} {row : List ℕ} {n : ℕ} {b b' : List ℕ} → Answerable h row b → Cleared n b b' → Answerable h row b'
answerable_still a p = record { accepted = a.accepted; room = room_still a.room p }

-- a call that answers bounds, within the limits and with a workspace that no question passes
module _ {h : Head} {row ws : List ℕ} (a : Answerable h row ws) (o : Bool) (within : o ≡ false) (needed : ℕ) (fits : needed ≤ workspace_room) where
  nothing_refuses : bounds_refusal h row (10, o) needed (length ws) ≡ 0
  nothing_refuses = not_refused 10 (omega arith) (record { accepted = a.accepted; inside = within; enough = omega (arith, fits, a.room) })

  given : (low high : ℕ) → bounds_answer (bounds_refusal h row (10, o) needed (length ws)) low high ≡ record { refusal = 0; lower = low; upper = high }
  unfolding bounds_answer
  given low high = rw nothing_refuses

  leaves : cleared_after (bounds_refusal h row (10, o) needed (length ws)) needed ws ≡ zero_first needed ws
  leaves = filled _ needed _ ws nothing_refuses

-- a call whose number is 0 has the bounds of the answer
pub is_answered : (r : Result Bounds Refusal) {a : Answer} → answer_result r ≡ a → a.refusal ≡ 0 → IsOk r
is_answered (Ok b) is none = refl
is_answered (Err e) is none = absurd (not_accepted e _ (ap (λ (a : Answer). a.refusal) is) none)

pub answered_bounds : {r : Result Bounds Refusal} {b : Bounds} {low high : ℕ} → r ≡ Ok b → answer_result r ≡ record { refusal = 0; lower = low; upper = high } → b ≡ record { lower = low; upper = high }
answered_bounds ok is = ap (λ (a : Answer). record { lower = a.lower; upper = a.upper }) (ap answer_result (sym ok) ∙ is)

-- one question
module _ {h : Head} {row ws : List ℕ} (a : Answerable h row ws) (q : Question) (within : outside q ≡ false) where
  abbrev ask : Ask
  ask = record { head = h; question = q }

  needed_fits : workspace_needed ask ≤ workspace_room
  needed_fits = workspace_fits ask (accepted_head h row a.accepted) within

  pub asked : answer ask row (length ws) ≡ record { refusal = 0; lower = lower (plan_of h row) q; upper = upper (plan_of h row) q }
  unfolding answer
  asked = given a (outside q) within (workspace_needed ask) needed_fits _ _

  pub asked_leaves : workspace_after ask row ws ≡ workspace_left h q ws
  asked_leaves = leaves a (outside q) within (workspace_needed ask) needed_fits

  pub asked_clears : {ws' : List ℕ} → ws' ≡ workspace_left h q ws → Cleared (question_needs h q) ws ws'
  asked_clears e = record { inside = needed_fits; is = e }

-- ruin in a month, in the workspace of survive
survive_inside : outside Survive ≡ false
unfolding outside
survive_inside = refl

module _ {h : Head} {row ws : List ℕ} (a : Answerable h row ws) (t : ℕ) (within : month_outside h t ≡ false) where
  pub ruined : ruin_answer h t row (length ws) ≡ record { refusal = 0; lower = ruin_lower (plan_of h row) t; upper = ruin_upper (plan_of h row) t }
  unfolding ruin_answer
  ruined = given a (month_outside h t) within (survival_workspace h) (needed_fits a Survive survive_inside) _ _

  pub ruined_leaves : ruin_workspace_after h t row ws ≡ workspace_left h Survive ws
  ruined_leaves = leaves a (month_outside h t) within (survival_workspace h) (needed_fits a Survive survive_inside)

  pub ruined_clears : {ws' : List ℕ} → ws' ≡ workspace_left h Survive ws → Cleared (question_needs h Survive) ws ws'
  ruined_clears e = asked_clears a Survive survive_inside e
