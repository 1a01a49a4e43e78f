-- `first_rows` meets its contract, by computation.
use mathlib.Core.Path.{refl}
use Rattle.model.specs.Scale.{S}
use Rattle.model.specs.CountRow.{no_months, after_months, count_row, tabulate}
use Rattle.count_row.specs.Answers.{count_rows}
use Rattle.count_row.proofs.counts.first_rows.Goals as goal

pub returns : goal.returns
unfolding count_rows count_row after_months no_months tabulate S
returns c = refl
