-- What a question clears of the workspace, in the words of any report. Assumes nothing.
use Rattle.report_lines.proofs.AskingLaws.{asked_clears}
use Rattle.report_groups.proofs.PlanAskedAsked.put_question.Goals as goal

pub returns-clause-cleared : goal.returns-clause-cleared
returns-clause-cleared c = asked_clears c.requires.answerable _ c.requires.question_value c.put_question.ensures.cleared
