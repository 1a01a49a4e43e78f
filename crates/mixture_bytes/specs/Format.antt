-- The bytes of a mixture: "one byte, the count; then for each plan its weight, four bytes, most significant first; then the plans' bytes end to end, each in the
-- plan format, with nothing after the last".
use Rattle.std.specs.Prelude.{ℕ, zero, suc, ◌+◌, ◌*◌, Bool, cond, List, [], ◌∷◌, map, eqb, get_or, take, drop}
use Rattle.numbers.specs.Bytes.{big_endian}
use Rattle.model.specs.declared.Head.{Head}
use Rattle.model.specs.Format.{head_of, row_of, byte_length}
use Rattle.mixture_plans.specs.Components.{Components}
use Rattle.mixture_plans.specs.Rows.{HeadRow, weighed}

-- the first byte
abbrev pub count_in : List ℕ → ℕ
count_in bytes = get_or bytes 0 0

-- so many weights
unfoldable pub weights_in : ℕ → List ℕ → List ℕ
weights_in zero bytes = []
weights_in (suc n) bytes = big_endian (take 4 bytes) ∷ weights_in n (drop 4 bytes)

-- where the plans begin
abbrev pub plans_start : ℕ → ℕ
plans_start count = 1 + 4 * count

-- the plan that bytes begin with: it has the length that its head asks, the last one has all that is left
unfoldable pub part_of : Bool → List ℕ → List ℕ
part_of last bytes = cond last bytes (take (byte_length (head_of bytes)) bytes)

-- the bytes of so many plans, "end to end"
unfoldable pub plan_parts : ℕ → List ℕ → List (List ℕ)
plan_parts zero bytes = []
plan_parts (suc n) bytes = part_of (eqb n 0) bytes ∷ plan_parts n (drop (byte_length (head_of bytes)) bytes)

abbrev pub parts_in : List ℕ → List (List ℕ)
parts_in bytes = plan_parts (count_in bytes) (drop (plans_start (count_in bytes)) bytes)

-- a plan's head and row
abbrev pub head_row : List ℕ → HeadRow
head_row part = (head_of part, row_of part)

-- the plans with their weights
unfoldable pub components_in : List ℕ → Components
components_in bytes = weighed (weights_in (count_in bytes) (drop 1 bytes)) (map head_row (parts_in bytes))

-- the head of the first plan, which is every plan's where they are alike
abbrev pub head_in : List ℕ → Head
head_in bytes = head_of (get_or (parts_in bytes) 0 [])
