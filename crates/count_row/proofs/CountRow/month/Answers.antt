-- `CountRow::month` meets its contract: each row by `count_month`, at its rounding.
use native.Mathlib.Omega.{arith}
use Rattle.model.specs.declared.Rounding.TheVariants.{Down, Up}
use Rattle.count_row.specs.Counts.{rows_after}
use Rattle.count_row.proofs.CountLaws.{count_after_whole}
use Rattle.count_row.proofs.CountRow.month.Goals as goal

pub count_month-requires : goal.count_month-requires
count_month-requires c =
    (omega (arith, c.requires.0.lower_length), c.requires.0.lower_parts, c.requires.1)

pub count_month-requires-2 : goal.count_month-requires-2
count_month-requires-2 c =
    (omega (arith, c.requires.0.upper_length), c.requires.0.upper_parts, c.requires.1)

pub returns : goal.returns
unfolding rows_after
returns c =
    let high = c.count_month-2 in
    let low = c.count_month in
    let P = c.args.chance in
    let row = c.args.self in
    let lows = count_after_whole Down P row.lower low.new.row c.requires.0.lower_length low.ensures in
    let highs = count_after_whole Up P row.upper high.new.row c.requires.0.upper_length high.ensures in
    λ i. record { lower = lows i; upper = highs i }
