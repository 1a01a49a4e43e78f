-- `forbid` meets its contract: the two ends as they come back filled (`forbidden`).
use Rattle.std.proofs.Common.{rules}
use Rattle.month_rows.proofs.ForbidLaws.{forbidden}
use Rattle.month_rows.proofs.rows.forbid.Goals as goal

pub returns : goal.returns
returns c =
    let a = c.args in
    forbidden a.row.now c.fill.new.self c.fill-2.new.self a.first a.last c.min-low.result c.min-high.result
    c.min-low.ensures (c.fill.ensures.after (λ y e. search rules)) c.min-high.ensures (c.fill-2.ensures.after (λ y e. search rules))
