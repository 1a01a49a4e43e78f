-- Laws of the report of a mixture's bytes.
use Prim.Native.Nat.{ℕ, ◌<◌}
use mathlib.Core.Path.{◌≡◌}
use mathlib.Core.List.{List}
use lib.ListN.{take}
use borrow.Author.Tests.{ne_eqb}
use Rattle.report_lines.specs.Lines.{refused_line}
use Rattle.report_groups.specs.Groups.{groups_need}
use Rattle.mixture_bytes.specs.Format.{components_in, head_in}
use Rattle.mixture_bytes.specs.Refusal.{bytes_refusal}
use Rattle.mixture_bytes.specs.Input.{longest_mixture, mixture_input_room}
use Rattle.mixture_bytes.proofs.LongInput.{first_part, reads_enough as LongInput·reads-enough}
use Rattle.mixture_lines.specs.Lines.{mixture_report}
use Rattle.mixture_text.specs.Report.{mixture_report_of, report_needs}

-- the report of bytes, where the mixture is accepted and where it is refused, and what its questions need
pub report_accepted : (bytes : List ℕ) → bytes_refusal bytes ≡ 0 → mixture_report_of bytes ≡ mixture_report (head_in bytes) (components_in bytes)
unfolding mixture_report_of
report_accepted bytes none = rw none

pub report_refused : (bytes : List ℕ) → (bytes_refusal bytes ≡ 0 → ⊥) → mixture_report_of bytes ≡ refused_line (bytes_refusal bytes)
unfolding mixture_report_of
report_refused bytes refused = rw (ne_eqb _ 0 refused)

pub needs_accepted : (bytes : List ℕ) → bytes_refusal bytes ≡ 0 → report_needs bytes ≡ groups_need (head_in bytes)
unfolding report_needs
needs_accepted bytes none = rw none

pub needs_refused : (bytes : List ℕ) → (bytes_refusal bytes ≡ 0 → ⊥) → report_needs bytes ≡ 0
unfolding report_needs
needs_refused bytes refused = rw (ne_eqb _ 0 refused)

-- the report of a longer input than every mixture is that of any first part that is still longer, so that what the program prints is the report of all its input
pub beyond : (bytes : List ℕ) (most : ℕ) → longest_mixture < most → mixture_report_of (take most bytes) ≡ mixture_report_of bytes
beyond = first_part mixture_report_of refused_line report_refused

pub reads_enough : (bytes : List ℕ) → mixture_report_of (take mixture_input_room bytes) ≡ mixture_report_of bytes
reads_enough = LongInput·reads-enough mixture_report_of refused_line report_refused
