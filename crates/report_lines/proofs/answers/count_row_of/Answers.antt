-- `answers::count_row_of` meets its contract: on an accepted plan the engine does not refuse. Assumes nothing.
use Rattle.report_lines.proofs.LineLaws.{is_counted, counted}
use Rattle.report_lines.proofs.answers.count_row_of.Goals as goal

pub unwrap-requires : goal.unwrap-requires
unwrap-requires c = is_counted _ _ c.requires _ c.count_claims.ensures.answered

pub returns : goal.returns
returns c = counted _ _ c.requires c.unwrap.ensures c.count_claims.ensures.answered
