-- `ruin_halves` meets its contract: all 0 first, and then each half as it came back (`HalfLaws`).
use mathlib.Core.Path.{◌≡◌, ◌∙◌}
use mathlib.Core.List.{◌++◌}
use Prim.Native.Nat.{◌*◌, ◌-◌, zero-le}
use Rattle.std.proofs.Common.{rules}
use borrow.Rule.Slice.PartMut.{mid_of}
use lib.ListN.{length, drop, replicate, length-replicate}
use Rattle.month_rule.proofs.HalfLaws.{second_lent, second_half, parts_replicate}
use Rattle.ruin_rows.proofs.RuinLaws.{zeros_second}
use Rattle.ruin_rows.proofs.ruin_halves.Goals as goal
use Rattle.ruin_rows.proofs.ruin_halves.Goals.{After-fill, After-ruin_row}

-- the workspace is twice a half
whole : (c : After-fill) → length c.fill.new.self ≡ 2 * c.args.half
whole c = c.fill.auto.self ∙ c.requires.halves_len.0

-- the second half as it is lent is all 0
second : (c : After-ruin_row) → let half = c.args.half in let halves = c.ruin_row.new.row ++ drop half c.fill.new.self in mid_of half (length halves - half) halves ≡ replicate half 0
second c =
    let whole : length c.fill.new.self ≡ 2 * c.args.half = c.fill.auto.self ∙ c.requires.halves_len.0 in
    second_lent c.fill.new.self c.ruin_row.new.row c.ruin_row.new.row c.args.half whole c.ruin_row.auto.row
    ∙ zeros_second c.fill.new.self _ c.args.half (c.fill.ensures.after (λ y e. search rules)) c.requires.halves_len.0

pub ruin_row-requires-2-clause-top_in_bounds : goal.ruin_row-requires-2-clause-top_in_bounds
ruin_row-requires-2-clause-top_in_bounds c =
    rw (second (goal.at.ruin_row-requires-2-clause-top_in_bounds c).After-ruin_row)
    (rw length-replicate c.requires.halves_len.1, parts_replicate c.args.half 0 zero-le, c.requires.halves_len.2)

pub returns-clause-upper : goal.returns-clause-upper
returns-clause-upper c =
    rw (second_half c.fill.new.self c.ruin_row.new.row c.ruin_row-2.new.row c.args.half (whole (goal.at.returns-clause-upper c).After-fill) c.ruin_row.auto.row)
    (rw (second (goal.at.returns-clause-upper c).After-ruin_row) at c.ruin_row-2.ensures.rewritten)
