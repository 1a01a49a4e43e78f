-- A plan, and how it lies in memory.
use Rattle.std.specs.Prelude.{ℕ, zero, suc, ◌+◌, List, length, get_or, take, drop}
use Rattle.model.specs.declared.Head.{Head}

-- "A plan has months n …, opening u …, sizes m …, a chance P_t for each month t = 1 to n, a weight F_x for each claim size x = 1 to m, and a weight
-- "over" for all sizes above m." Document 02: "A plan gains the income c". The months are as many as the chances, the sizes as many as the weights F_x;
-- `tail` is document 01's "over".
pub record Plan : Type 0 where
  pub opening : ℕ
  pub income : ℕ
  pub chances : List ℕ
  pub severity : List ℕ
  pub tail : ℕ

abbrev pub horizon : Plan → ℕ
horizon p = length p.chances

abbrev pub sizes : Plan → ℕ
sizes p = length p.severity

-- the x-th number of a list, counted from 1, and 0 outside it: P_t of the chances, F_x of the weights
unfoldable pub nth : List ℕ → ℕ → ℕ
nth xs zero = 0
nth xs (suc i) = get_or xs i 0

-- "a row of n + m + 1 numbers of 32 bits"
abbrev pub row_length : Head → ℕ
row_length h = h.months + h.sizes + 1

-- "In memory a plan is a head (n, u, m) and a row of n + m + 1 numbers of 32 bits: chances, weights, over." The head has the income too.
unfoldable pub plan_of : Head → List ℕ → Plan
plan_of h row =
    record {
      opening = h.opening;
      income = h.income;
      chances = take h.months row;
      severity = take h.sizes (drop h.months row);
      tail = get_or row (h.months + h.sizes) 0;
    }

-- the same head with another opening
abbrev pub opened : Head → ℕ → Head
opened h v = record { months = h.months; opening = v; sizes = h.sizes; income = h.income }
