-- Laws of the report of bytes. Assumes nothing.
use Prim.Native.Nat.{ℕ}
use mathlib.Core.Path.{◌≡◌}
use mathlib.Core.List.{List}
use borrow.Author.Tests.{ne_eqb}
use Rattle.model.specs.Limits.{row_room}
use Rattle.model.specs.Format.{head_of, row_of}
use Rattle.model.specs.Refusal.{read_refusal}
use Rattle.report_lines.specs.Lines.{refused_line}
use Rattle.report_text.specs.Report.{plan_report, report_of, plan_needs, report_needs}

-- The report of bytes, where the plan is accepted and where it is refused
pub report_accepted : (bytes : List ℕ) → read_refusal bytes row_room ≡ 0 → report_of bytes ≡ plan_report (head_of bytes) (row_of bytes)
unfolding report_of
report_accepted bytes none = rw none

pub report_refused : (bytes : List ℕ) → (read_refusal bytes row_room ≡ 0 → ⊥) → report_of bytes ≡ refused_line (read_refusal bytes row_room)
unfolding report_of
report_refused bytes refused = rw (ne_eqb _ 0 refused)

-- and what its questions need
pub needs_accepted : (bytes : List ℕ) → read_refusal bytes row_room ≡ 0 → report_needs bytes ≡ plan_needs (head_of bytes)
unfolding report_needs
needs_accepted bytes none = rw none

pub needs_refused : (bytes : List ℕ) → (read_refusal bytes row_room ≡ 0 → ⊥) → report_needs bytes ≡ 0
unfolding report_needs
needs_refused bytes refused = rw (ne_eqb _ 0 refused)
