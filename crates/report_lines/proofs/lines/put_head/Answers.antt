-- `lines::put_head` meets its contract: three entries and a line, one after another. Assumes nothing.
use Rattle.text.proofs.TextLaws.{appended_more}
use Rattle.report_lines.specs.Lines.{head_line}
use Rattle.report_lines.proofs.lines.put_head.Goals as goal

pub returns : goal.returns
unfolding head_line
returns c =
    appended_more (appended_more (appended_more c.put_entry-end.ensures c.put_entry-end-2.ensures) c.put_entry-end-3.ensures) c.put_line.ensures
