-- Laws of the chart: what it is for an accepted plan and for a refusal, its lines from the pairs in memory, and inputs longer than every plan.
use Prim.Native.Nat.{ℕ, ◌+◌, ◌≤◌}
use mathlib.Core.Path.{◌≡◌, refl}
use mathlib.Core.List.{List, [], ◌∷◌}
use native.Mathlib.Omega.{arith}
use borrow.Author.Tests.{ne_eqb}
use lib.ListN.{length, take}
use Rattle.model.specs.declared.Head.{Head}
use Rattle.model.specs.Limits.{row_room}
use Rattle.model.specs.Format.{head_of, row_of}
use Rattle.std.specs.Prelude.{Result, Ok, Err, IsOk}
use Rattle.model.specs.declared.refusal.Refusal.{Refusal}
use Rattle.model.specs.Refusal.{refused_with, read_refusal}
use Rattle.model.proofs.RefusalNumbers.{not_accepted}
use Rattle.codec.specs.Input.{input_room}
use Rattle.codec.proofs.LongInput.{reads_enough as LongInput·reads-enough}
use Rattle.survival.specs.Openings.{openings_refusal, bounds_after}
use Rattle.survival.proofs.Theorems.{pair_is}
use Rattle.text.specs.Text.{ascii, joined}
use Rattle.text.proofs.TextLaws.{line_at_most, joined_same}
use Rattle.report_lines.specs.Lines.{opening_line, refused_line, line_room}
use Rattle.chart.specs.Chart.{chart_lines, chart_of, pair_line}

-- a call whose number is 0 does not fail
pub unrefused_ok : {A : Type 0} (r : Result A Refusal) → refused_with r ≡ 0 → IsOk r
unrefused_ok (Ok x) none = refl
unrefused_ok (Err e) none = absurd (not_accepted e 0 none refl)

module _ (bytes : List ℕ) where
  pub chart_accepted : read_refusal bytes row_room ≡ 0 → chart_of bytes ≡ chart_lines (head_of bytes) (row_of bytes)
  unfolding chart_of
  chart_accepted none = rw none

  pub chart_refused : (read_refusal bytes row_room ≡ 0 → ⊥) → chart_of bytes ≡ refused_line (read_refusal bytes row_room)
  unfolding chart_of
  chart_refused refused = rw (ne_eqb _ 0 refused)

pub opening_short : (v low high : ℕ) → length (opening_line v low high) ≤ line_room
opening_short v low high = omega (arith, line_at_most (ascii "opening") (v ∷ low ∷ high ∷ []))

-- the lines of the pairs that the call leaves are the plan's
pub lines_are :
    (h : Head) (row ws bounds left : List ℕ) → left ≡ bounds_after h row (length ws) bounds → openings_refusal h row (length ws) (length bounds) ≡ 0 →
    joined (h.opening + 1) (pair_line left) ≡ chart_lines h row
unfolding chart_lines
lines_are h row ws bounds left is none =
    joined_same (h.opening + 1) (λ v l. let pair = pair_is h row ws bounds left is none v (omega arith) in rw (pair.0, pair.1))

-- what the program prints is the chart of all its input
pub reads_enough : (bytes : List ℕ) → chart_of (take input_room bytes) ≡ chart_of bytes
reads_enough = LongInput·reads-enough chart_of refused_line row_room chart_refused
