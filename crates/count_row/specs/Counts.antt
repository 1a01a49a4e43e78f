-- The count row in memory.
use Rattle.std.specs.Prelude.{ℕ, ◌≡◌, length}
use Rattle.model.specs.Limits.{places}
use Rattle.count_row.specs.declared.CountRow.{CountRow}
use Rattle.model.specs.declared.Rounding.TheVariants.{Down, Up}
use Rattle.model.specs.CountRow.{count_month, tabulate}
use Rattle.claims.specs.Values.{Parts}
use Rattle.month_rows.specs.Rows.{at}

-- both rows are whole and in parts of S
pub record CountParts (row : CountRow) : Type 0 where
  pub lower_length : length row.lower ≡ places
  pub upper_length : length row.upper ≡ places
  pub lower_parts : Parts row.lower
  pub upper_parts : Parts row.upper

-- the rows after one more month
unfoldable pub rows_after : ℕ → CountRow → CountRow
rows_after P row =
    record {
      lower = tabulate places (count_month Down P (at row.lower));
      upper = tabulate places (count_month Up P (at row.upper));
    }
