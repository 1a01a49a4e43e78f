-- The levels of a fund, by the income that it has every month: the largest level, and the levels of a row.
use Rattle.std.specs.Prelude.{ℕ, ◌+◌, ◌*◌}

-- Document 02: "The largest level is u + c × n", which a fund that opens at u reaches after n months without a claim
unfoldable pub largest_level : ℕ → ℕ → ℕ → ℕ
largest_level income u n = u + income * n

-- document 01's u + n + 1, with c × n for n: the levels 0 to the largest, the places of a row of values
abbrev pub row_levels : ℕ → ℕ → ℕ → ℕ
row_levels income u n = largest_level income u n + 1
