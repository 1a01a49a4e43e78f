-- `report_groups::numbered` meets its contract, by the question's cases. Assumes nothing.
use Rattle.report_groups.specs.Groups.{numbered}
use mathlib.Core.Path.{sym, ap}
use Rattle.report_groups.proofs.numbered.Goals as goal

pub returns-in-Both : goal.returns-in-Both
returns-in-Both c = sym (ap (λ q. numbered q c.args.x) c.in-Both.is)

pub returns-in-High : goal.returns-in-High
returns-in-High c = sym (ap (λ q. numbered q c.args.x) c.in-High.is)

pub returns-in-Low : goal.returns-in-Low
returns-in-Low c = sym (ap (λ q. numbered q c.args.x) c.in-Low.is)
