-- `report_groups::put_counts` meets its contract: the rows that the engine answers hold the plan's count row. Assumes nothing.
use native.Mathlib.Omega.{arith}
use borrow.Author.Rules.{rules}
use Prim.Native.Nat.{◌<◌}
use Rattle.model.specs.Limits.{places}
use Rattle.model.proofs.Facts.{head_facts, accepted_head}
use Rattle.report_groups.proofs.GroupLaws.{claims_are}
use Rattle.report_groups.proofs.put_counts.Goals as goal
use Rattle.report_groups.proofs.put_counts.Goals.{After-count_row_of-counts}

-- the count row has a place for each number of claims
months_fit : (c : After-count_row_of-counts) → c.args.head.months < places
months_fit c = omega (arith, (head_facts _ (accepted_head _ _ c.requires.accepted)).months_fit)

pub put_claims-requires : goal.put_claims-requires
put_claims-requires c =
    let rows = c.count_row_of-counts.ensures in
    let fit = months_fit (goal.at.put_claims-requires c).After-count_row_of-counts in record { months_in_bounds = (omega (arith, rows.lowers_long), omega (arith, rows.uppers_long)); line_room_in_bounds = search rules }

pub returns : goal.returns
returns c =
    rw (← claims_are _ (months_fit (goal.at.returns c).After-count_row_of-counts) c.count_row_of-counts.ensures) c.put_claims.ensures
