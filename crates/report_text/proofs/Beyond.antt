-- The report of a longer input than every plan is that of any first part that is still longer: a program need not read on. Assumes nothing.
use Prim.Native.Nat.{ℕ, ◌<◌}
use mathlib.Core.Path.{◌≡◌}
use mathlib.Core.List.{List}
use lib.ListN.{take}
use Rattle.model.specs.Limits.{row_room}
use Rattle.model.specs.Figures.{longest_plan}
use Rattle.codec.specs.Input.{input_room}
use Rattle.codec.proofs.LongInput.{first_part, reads_enough as LongInput·reads-enough}
use Rattle.report_lines.specs.Lines.{refused_line}
use Rattle.report_text.specs.Report.{report_of}
use Rattle.report_text.proofs.Laws.{report_refused}

-- the report of a longer input is that of its first part
pub beyond : (bytes : List ℕ) (most : ℕ) → longest_plan < most → report_of (take most bytes) ≡ report_of bytes
beyond = first_part report_of refused_line row_room report_refused

-- so what the program prints is the report of all its input
pub reads_enough : (bytes : List ℕ) → report_of (take input_room bytes) ≡ report_of bytes
reads_enough = LongInput·reads-enough report_of refused_line row_room report_refused
