-- The report of a mixture's bytes, from its lines and the definitions of the mixture alone.
use Rattle.std.specs.Prelude.{ℕ, cond, List, eqb}
use Rattle.report_lines.specs.Lines.{refused_line}
use Rattle.mixture_bytes.specs.Format.{components_in, head_in}
use Rattle.mixture_bytes.specs.Refusal.{bytes_refusal}
use Rattle.report_groups.specs.Groups.{groups_need}
use Rattle.mixture_lines.specs.Lines.{mixture_report}

-- the lines of the mixture, "or `refused ` and the number"
unfoldable pub mixture_report_of : List ℕ → List ℕ
mixture_report_of bytes = cond (eqb (bytes_refusal bytes) 0) (mixture_report (head_in bytes) (components_in bytes)) (refused_line (bytes_refusal bytes))

-- what its questions need of the workspace, and none of a refused one
unfoldable pub report_needs : List ℕ → ℕ
report_needs bytes = cond (eqb (bytes_refusal bytes) 0) (groups_need (head_in bytes)) 0
