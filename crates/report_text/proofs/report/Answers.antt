-- `report_text::report` meets its contract: the text is appended to none, and stands before what the buffer had past it. Assumes nothing.
use native.Mathlib.Omega.{arith}
use borrow.Author.Rules.{rules}
use Rattle.report_groups.specs.Groups.{most_lines}
use Rattle.text.proofs.TextLaws.{appended_whole}
use Rattle.report_text.proofs.report.Goals as goal

pub put_report-requires : goal.put_report-requires
unfolding most_lines
put_report-requires c = (omega arith, search rules)

pub returns : goal.returns
returns c =
    let both = appended_whole c.put_report.ensures.written in
    record { answered = both.0; written = both.1.0; within = both.1.1 }
