-- Laws of the two halves: what each holds when it has been lent, the first and then the second, and the last rows.
use mathlib.Core.Path.{◌≡◌, sym, ◌∙◌, ap}
use mathlib.Core.List.{List, [], ◌++◌, append-nil}
use Prim.Native.Nat.{ℕ, zero, suc, ◌+◌, ◌*◌, ◌-◌, ◌≤◌, zero-le, ◌<◌}
use native.Mathlib.Nat.{le_refl, sub-zero, suc-mul}
use native.Mathlib.Omega.{arith}
use borrow.Rule.Slice.PartMut.{mid_of, post_of, put_mid}
use lib.ListN.{length, get_or, take, drop, replicate, length-drop, length-replicate, get_or-replicate, drop_of_length-le}
use lib.Seq.{length-take-le, length_front, take_at, drop_at, take_all, get_or-drop}
use Rattle.model.specs.Scale.{S}
use Rattle.model.specs.MonthRule.{all_placed}
use Rattle.month_rows.specs.declared.rows.Shape.{Shape}
use Rattle.claims.specs.Values.{Parts}
use Rattle.month_rows.specs.Shapes.{rows_size, values_in, RowsIn}
use Rattle.month_rule.specs.Months.{HalvesIn}
use Rattle.month_rows.proofs.RowLaws.{parts_part, parts_drop}
use Rattle.month_rows.proofs.ForbidLaws.{getD_zeros}
use Rattle.month_rows.proofs.ManyRows.{parts_append, parts_put, put_before, put_in, row_before_row}

-- each half holds the rows of the shape
pub lower_rows : (shape : Shape) (xs : List ℕ) → HalvesIn shape xs → RowsIn shape (take (rows_size shape) xs)
lower_rows shape xs h =
    record { some = h.some; income_some = h.income_some; size = length-take-le (rows_size shape) xs (omega (arith, h.size)); parts = parts_part xs 0 (rows_size shape) h.parts }

pub upper_rows : (shape : Shape) (xs : List ℕ) → HalvesIn shape xs → RowsIn shape (drop (rows_size shape) xs)
upper_rows shape xs h =
    record { some = h.some; income_some = h.income_some; size = omega (arith, h.size, length-drop (rows_size shape) xs); parts = parts_drop xs (rows_size shape) h.parts }

-- the list after its first half came back as `front` and its second as `back`
module _ (xs front back : List ℕ) (half : ℕ) (whole : length xs ≡ 2 * half) (front_is : length front ≡ length (take half xs)) where
  abbrev between_calls : List ℕ
  between_calls = front ++ drop half xs

  front_count : length front ≡ half
  front_count = front_is ∙ length-take-le half xs (omega arith)

  pub still_whole : length between_calls ≡ 2 * half
  still_whole = length_front xs front half front_is ∙ whole

  -- the second half as it is lent
  pub second_lent : mid_of half (length between_calls - half) between_calls ≡ drop half xs
  second_lent =
      rw (drop_at front (drop half xs) half front_count)
      (take_all (length between_calls - half) (drop half xs) (omega (arith, still_whole, length-drop half xs)))

  pub after_both : put_mid half (length between_calls - half) between_calls back ≡ front ++ back
  after_both =
      let rest : post_of half (length between_calls - half) between_calls ≡ [] =
      drop_of_length-le (drop half between_calls) {i = length between_calls - half} (omega (arith, still_whole, length-drop half between_calls)) in
      rw (rest, append-nil, take_at front (drop half xs) half front_count)

  pub first_half : take half (put_mid half (length between_calls - half) between_calls back) ≡ front
  first_half = rw after_both (take_at front back half front_count)

  pub second_half : drop half (put_mid half (length between_calls - half) between_calls back) ≡ back
  second_half = rw after_both (drop_at front back half front_count)

  pub parts_both : Parts front → Parts back → Parts (put_mid half (length between_calls - half) between_calls back)
  parts_both hf hb = rw after_both (parts_append front back hf hb)

pub parts_replicate : (n v : ℕ) → v ≤ S → Parts (replicate n v)
parts_replicate n v l = record { each = go n }
  where
    go : (n k : ℕ) → get_or (replicate n v) k 0 ≤ S
    go zero k = zero-le
    go (suc n) zero = l
    go (suc n) (suc k) = go n k

-- The last rows: all 0, and then S in the row with no claims left.
module _ (xs ys zs : List ℕ) (shape : Shape) (some_row : 0 < shape.rows) (whole : length xs ≡ rows_size shape) (zeros : ys ≡ replicate (length xs) 0)
    (own : zs ≡ replicate (length (mid_of ((shape.rows - 1) * shape.width) (length ys - (shape.rows - 1) * shape.width) ys)) S) where
  abbrev start : ℕ
  start = (shape.rows - 1) * shape.width

  same_count : length ys ≡ rows_size shape
  same_count = ap length zeros ∙ length-replicate {A = ℕ} (length xs) 0 ∙ whole

  own_fits : start + shape.width ≡ length ys
  own_fits = sym (suc-mul (shape.rows - 1) shape.width) ∙ ap (λ (n : ℕ). n * shape.width) (omega arith) ∙ sym same_count

  own_count : length zs ≡ length ys - start
  own_count =
      ap length own ∙ length-replicate (length (mid_of start (length ys - start) ys)) S
      ∙ length-take-le (length ys - start) (drop start ys) (omega (arith, length-drop start ys))

  pub last_rows_at :
      (top : ℕ) → top < shape.width → (k : ℕ) → k < shape.rows → (s : ℕ) → values_in shape top (put_mid start (length ys - start) ys zs) k s ≡ all_placed k s
  unfolding all_placed
  last_rows_at top l zero m s =
      get_or-drop ((shape.rows - 1 - 0) * shape.width) (put_mid start (length ys - start) ys zs) (top - s) 0
      ∙ rw sub-zero (put_in ys zs start (length ys - start) own_count (omega (arith, own_fits)) (top - s) (omega (arith, own_fits)))
      ∙ ap (λ (l : List ℕ). get_or l (top - s) 0) own
      ∙ get_or-replicate (length (mid_of start (length ys - start) ys)) (top - s) S 0
      (omega (arith, own_count, own_fits, ap length own, length-replicate (length (mid_of start (length ys - start) ys)) S))
  last_rows_at top l (suc k) m s =
      get_or-drop ((shape.rows - 1 - suc k) * shape.width) (put_mid start (length ys - start) ys zs) (top - s) 0
      ∙ put_before ys zs start (length ys - start) own_count (omega (arith, own_fits)) ((shape.rows - 1 - suc k) * shape.width + (top - s))
      (row_before_row (shape.rows - 1 - suc k) (shape.rows - 1) shape.width (top - s) (omega arith) (omega arith))
      ∙ ap (λ (l : List ℕ). get_or l ((shape.rows - 1 - suc k) * shape.width + (top - s)) 0) zeros
      ∙ getD_zeros (length xs) ((shape.rows - 1 - suc k) * shape.width + (top - s))

  pub last_rows_parts : Parts (put_mid start (length ys - start) ys zs)
  last_rows_parts =
      parts_put ys zs start (length ys - start) (rw zeros (parts_replicate (length xs) 0 zero-le))
      (rw own (parts_replicate (length (mid_of ((shape.rows - 1) * shape.width) (length ys - (shape.rows - 1) * shape.width) ys)) S (le_refl S)))
