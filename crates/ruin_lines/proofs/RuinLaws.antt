-- Laws of the lines of ruin: the loop over the months, the sums, and how long the lines are. Assumes nothing.
use Prim.Native.Nat.{ℕ, suc, ◌+◌, ◌*◌, ◌^◌, ◌<◌, ◌≤◌}
use mathlib.Core.Path.{◌≡◌, refl, sym, ap, ◌∙◌}
use mathlib.Core.List.{List, [], ◌∷◌}
use native.Mathlib.Numerals.{add-one}
use native.Mathlib.Omega.{arith}
use lib.ListN.{length}
use Rattle.model.specs.declared.Head.{Head}
use Rattle.model.specs.Scale.{S}
use Rattle.model.specs.Sums.{sum}
use Rattle.model.specs.Plan.{Plan, plan_of}
use Rattle.model.specs.Bounds.{ruin_lower, ruin_upper}
use Rattle.model.specs.Refusal.{Accepted}
use Rattle.model.proofs.SumLaws.{sum_last, sum_at_most}
use Rattle.model.proofs.Facts.{head_facts, facts, accepted_head, horizon_is}
use Rattle.model.proofs.Theorems.{ruins_fit}
use Rattle.text.specs.Text.{ascii, Appended}
use Rattle.text.proofs.TextLaws.{Appending, appended_more, appending_start, appending_turn, appending_done, line_at_most, joined_at_most}
use Rattle.ruin_lines.specs.declared.RuinLines.{RuinLines}
use Rattle.report_lines.specs.Asking.{largest_of, Cleared}
use Rattle.ruin_lines.specs.Lines.{ruin_line, ruin_line_of, ruin_all_line, ruin_lines}
use Rattle.report_lines.specs.Lines.{line_room}
use Rattle.report_lines.proofs.AskingLaws.{cleared_none, cleared_turn}

pub ruin_short : (t low high : ℕ) → length (ruin_line t low high) ≤ line_room
ruin_short t low high = omega (arith, line_at_most (ascii "fails") (t ∷ low ∷ high ∷ []))

-- What the loop over the months of ruin keeps: the lines of the first i months, their sums, and what is left of the workspace.
pub record Ruining (p : Plan) (needed n : ℕ) (text₀ : List ℕ) (at : ℕ) (ws₀ text ws : List ℕ) (lines : RuinLines) (i : ℕ) : Type 0 where
  pub text_so_far : Appending (ruin_line_of p) n text₀ at text lines.end i
  pub lower_so_far : lines.lower ≡ sum i (ruin_lower p)
  pub upper_so_far : lines.upper ≡ sum i (ruin_upper p)
  pub left : Cleared (largest_of i (λ _. needed)) ws₀ ws

pub ruining_start : (p : Plan) (needed n : ℕ) (text ws : List ℕ) (at : ℕ) → at ≤ length text → Ruining p needed n text at ws text ws (record { end = at; lower = 0; upper = 0 }) 0
unfolding sum
ruining_start p needed n text ws at l = record { text_so_far = appending_start l; lower_so_far = refl; upper_so_far = refl; left = cleared_none _ ws }

pub ruining_turn :
    {p : Plan} {needed n : ℕ} {text₀ : List ℕ} {at : ℕ} {ws₀ text ws text' ws' : List ℕ} {lines lines' : RuinLines} {i : ℕ} →
    Ruining p needed n text₀ at ws₀ text ws lines i → i < n → length text' ≡ length text →
    Appended text lines.end (ruin_line_of p i) text' lines'.end →
    (lines'.lower ≡ lines.lower + ruin_lower p (i + 1)) × (lines'.upper ≡ lines.upper + ruin_upper p (i + 1)) → Cleared needed ws ws' →
    Ruining p needed n text₀ at ws₀ text' ws' lines' (i + 1)
ruining_turn {p} {needed} {i = i} r l same line sums clear =
    record {
      text_so_far = appending_turn r.text_so_far l same line;
      lower_so_far = sums.0 ∙ ap (λ (x : ℕ). x + ruin_lower p (i + 1)) r.lower_so_far ∙ sym (one_more (ruin_lower p));
      upper_so_far = sums.1 ∙ ap (λ (x : ℕ). x + ruin_upper p (i + 1)) r.upper_so_far ∙ sym (one_more (ruin_upper p));
      left = cleared_turn (λ _. needed) r.left clear;
    }
  where
    one_more : (f : ℕ → ℕ) → sum (i + 1) f ≡ sum i f + f (i + 1)
    one_more f = rw add-one (sum_last i f)

-- there is room for one line more
pub ruining_room :
    {p : Plan} {needed n : ℕ} {text₀ : List ℕ} {at : ℕ} {ws₀ text ws : List ℕ} {lines : RuinLines} {i : ℕ} →
    Ruining p needed n text₀ at ws₀ text ws lines i → at + (n + 1) * line_room ≤ length text₀ → lines.end + line_room ≤ length text
ruining_room {p} {i = i} r room =
    omega (
      arith,
      r.text_so_far.long,
      r.text_so_far.turns,
      r.text_so_far.text.ends,
      joined_at_most (ruin_line_of p) line_room (λ j. ruin_short (j + 1) _ _) i,
    )

-- the sums of so many months' bounds are far below what a machine number holds
pub ruins_small : (h : Head) (row : List ℕ) → Accepted h row → (i : ℕ) → i ≤ h.months → (sum i (ruin_lower (plan_of h row)) < 2 ^ 63) × (sum i (ruin_upper (plan_of h row)) < 2 ^ 63)
unfolding S
ruins_small h row accepted i l =
    let few = (head_facts h (accepted_head h row accepted)).months_fit in (
      omega (arith, sum_at_most i S (ruin_lower (plan_of h row)) (λ j. (ruins_fit h row accepted (suc j)).0)),
      omega (arith, sum_at_most i S (ruin_upper (plan_of h row)) (λ j. (ruins_fit h row accepted (suc j)).1)),
    )

-- the lines of all months, and that of the sums, are the plan's
pub ruins_done :
    (h : Head) (row : List ℕ) {needed : ℕ} {text₀ : List ℕ} {at : ℕ} {ws₀ text ws text' : List ℕ} {lines : RuinLines} {i end : ℕ} → Accepted h row →
    Ruining (plan_of h row) needed h.months text₀ at ws₀ text ws lines i → h.months ≤ i →
    Appended text lines.end (ruin_all_line lines.lower lines.upper) text' end →
    Appended text₀ at (ruin_lines (plan_of h row)) text' end
unfolding ruin_lines
ruins_done h row {lines = lines} {i = i} accepted r l last =
    let all : i ≡ h.months = omega (arith, r.text_so_far.turns) in
    rw (horizon_is h row (facts h row accepted).row_is)
    (appended_more (appending_done r.text_so_far l)
    (rw (r.lower_so_far, r.upper_so_far, all) at last))
