-- Laws of several rows of one width in one list: what a change of one row leaves of the others.
use mathlib.Core.Path.{◌≡◌, refl, sym, ◌∙◌, ap, ap₂}
use mathlib.Core.Logic.{⊎_elim}
use mathlib.Core.Bool.{Bool, true, false, ◌&&◌, cond}
use mathlib.Core.List.{List, [], ◌∷◌, ◌++◌}
use Prim.Native.Nat.{ℕ, zero, suc, ◌+◌, ◌*◌, ◌-◌, ◌≤◌, zero-le, ◌<◌}
use native.Mathlib.Nat.{suc-mul, mul-le-mul_right}
use native.Mathlib.Numerals.{add-one}
use native.Mathlib.Omega.{arith}
use lib.Dec.{leb, ltb}
use borrow.Author.Count.{below_more}
use borrow.Author.Tests.{le-leb, lt-leb, lt-ltb, le-ltb}
use borrow.Rule.Slice.PartMut.{mid_of, post_of, put_mid, same_len_mid}
use lib.ListN.{length, get_or, take, drop, length-drop, get_or-append}
use lib.Seq.{length-take-le, get_or-take, get_or-drop}
use Rattle.model.specs.Scale.{S}
use Rattle.model.specs.MonthRule.{Row, kept}
use Rattle.month_rows.specs.declared.rows.Shape.{Shape}
use Rattle.claims.specs.Values.{Parts}
use Rattle.month_rows.specs.Rows.{at, between}
use Rattle.month_rows.specs.Shapes.{row_with, values_in, RowsIn, allowed_places}
use Rattle.model.proofs.SumLaws.{below_or_not}
use Rattle.month_rows.proofs.RowLaws.{parts_part}
use Rattle.month_rows.proofs.ForbidLaws.{get_d_past}

-- a row by its number in the list
abbrev pub rows_at : ℕ → List ℕ → ℕ → Row
rows_at width xs j = at (drop (j * width) xs)

-- a row lies within the rows, and before the next row
pub row_fits : (j count width : ℕ) → j < count → j * width + width ≤ count * width
row_fits j count width l = omega (arith, mul-le-mul_right width l, suc-mul j width)

pub row_before_row : (i j width s : ℕ) → i < j → s < width → i * width + s < j * width
row_before_row i j width s l m = omega (arith, row_fits i j width l)

-- the list with ys in the place of n elements from a on: before them, in them, after them
module _ (xs ys : List ℕ) (a n : ℕ) (count : length ys ≡ n) (fits : a + n ≤ length xs) where
  front : length (take a xs) ≡ a
  front = length-take-le a xs (omega arith)

  pub put_before : (k : ℕ) → k < a → get_or (put_mid a n xs ys) k 0 ≡ get_or xs k 0
  put_before k l = get_or-append (take a xs) (ys ++ post_of a n xs) 0 k (omega (arith, front)) ∙ get_or-take a xs k 0 l

  pub put_in : (k : ℕ) → k < n → get_or (put_mid a n xs ys) (a + k) 0 ≡ get_or ys k 0
  put_in k l =
      let here : a + k - a ≡ k = omega arith in
      get_d_past (take a xs) (ys ++ post_of a n xs) a (a + k) front (omega arith)
      ∙ rw here (get_or-append ys (post_of a n xs) 0 k (omega arith))

  pub put_after : (k : ℕ) → a + n ≤ k → get_or (put_mid a n xs ys) k 0 ≡ get_or xs k 0
  put_after k l =
      let whole : a + (n + (k - a - n)) ≡ k = omega arith in
      get_d_past (take a xs) (ys ++ post_of a n xs) a k front (omega arith)
      ∙ get_d_past ys (post_of a n xs) n (k - a) count (omega arith)
      ∙ get_or-drop n (drop a xs) (k - a - n) 0
      ∙ get_or-drop a xs (n + (k - a - n)) 0
      ∙ ap (λ (i : ℕ). get_or xs i 0) whole

pub parts_append : (xs ys : List ℕ) → Parts xs → Parts ys → Parts (xs ++ ys)
parts_append xs ys hx hy = record { each = go xs hx.each }
  where
    go : (xs : List ℕ) → ((k : ℕ) → get_or xs k 0 ≤ S) → (k : ℕ) → get_or (xs ++ ys) k 0 ≤ S
    go [] h k = hy.each k
    go (x ∷ xs) h zero = h zero
    go (x ∷ xs) h (suc k) = go xs (λ i. h (suc i)) k

parts_kept : (xs ys : List ℕ) (allowed : ℕ → Bool) → at ys ≡ kept allowed (at xs) → Parts xs → Parts ys
unfolding kept
parts_kept xs ys allowed e h = record { each = λ k. rw (ap (λ (row : Row). row k) e) (go (allowed k) (get_or xs k 0) (h.each k)) }
  where
    go : (t : Bool) (v : ℕ) → v ≤ S → cond t v 0 ≤ S
    go true v l = l
    go false v l = zero-le

pub parts_put : (xs ys : List ℕ) (a n : ℕ) → Parts xs → Parts ys → Parts (put_mid a n xs ys)
parts_put xs ys a n hx hy =
    parts_append (take a xs) (ys ++ post_of a n xs) (parts_part xs 0 a hx)
    (parts_append ys (post_of a n xs) hy (record { each = λ k. rw (get_or-drop n (drop a xs) k 0, get_or-drop a xs (n + k) 0) (hx.each (a + (n + k))) }))

-- rows that were rewritten in place
pub rows_in_again : (shape : Shape) (xs ys : List ℕ) → RowsIn shape xs → length ys ≡ length xs → Parts ys → RowsIn shape ys
rows_in_again shape xs ys h same parts = record { some = h.some; income_some = h.income_some; size = same ∙ h.size; parts = parts }

-- Rows forbidden one after the other, from the first: `done` of the rows passed, `rest` of the others.
pub record Forbidding (old : List ℕ) (width first last : ℕ) (rows : List ℕ) (j : ℕ) : Type 0 where
  pub same_length : length rows ≡ length old
  pub parts : Parts rows
  pub done : (i : ℕ) → i < j → (s : ℕ) → s < width → rows_at width rows i s ≡ kept (between first last) (rows_at width old i) s
  pub rest : (k : ℕ) → j * width ≤ k → get_or rows k 0 ≡ get_or old k 0

forbidding_row :
    (old : List ℕ) (count width first last : ℕ) → length old ≡ count * width →
    (rows row : List ℕ) (j : ℕ) → j < count → Forbidding old width first last rows j →
    length row ≡ length (mid_of (j * width) width rows) → at row ≡ kept (between first last) (at (mid_of (j * width) width rows)) →
    Forbidding old width first last (put_mid (j * width) width rows row) (j + 1)
unfolding kept
forbidding_row old count width first last whole rows row j l h same e =
    record {
      same_length = same_len_mid (j * width) width rows row same ∙ h.same_length;
      parts = parts_put rows row (j * width) width h.parts (parts_kept (mid_of (j * width) width rows) row (between first last) e (parts_part rows (j * width) width h.parts));
      done =
          below_more (λ (i : ℕ). (s : ℕ) → s < width → rows_at width rows' i s ≡ kept (between first last) (rows_at width old i) s) j passed here;
      rest = λ k m. put_after rows row (j * width) width n fits k (omega (arith, after)) ∙ h.rest k (omega (arith, after));
    }
  where
    rows' : List ℕ
    rows' = put_mid (j * width) width rows row

    after : (j + 1) * width ≡ j * width + width
    after = rw (add-one, suc-mul)

    fits : j * width + width ≤ length rows
    fits = omega (arith, row_fits j count width l, h.same_length)

    mid : length (mid_of (j * width) width rows) ≡ width
    mid = length-take-le width (drop (j * width) rows) (omega (arith, fits, length-drop (j * width) rows))

    n : length row ≡ width
    n = same ∙ mid

    passed : (i : ℕ) → i < j → (s : ℕ) → s < width → rows_at width rows' i s ≡ kept (between first last) (rows_at width old i) s
    passed i b s m =
        get_or-drop (i * width) rows' s 0
        ∙ put_before rows row (j * width) width n fits (i * width + s) (row_before_row i j width s b m)
        ∙ sym (get_or-drop (i * width) rows s 0)
        ∙ h.done i b s m

    here : (s : ℕ) → s < width → rows_at width rows' j s ≡ kept (between first last) (rows_at width old j) s
    here s m =
        get_or-drop (j * width) rows' s 0
        ∙ put_in rows row (j * width) width n fits s m
        ∙ ap (λ (r : Row). r s) e
        ∙ ap (λ (v : ℕ). cond (between first last s) v 0)
        (get_or-take width (drop (j * width) rows) s 0 m
        ∙ get_or-drop (j * width) rows s 0
        ∙ h.rest (j * width + s) (omega arith)
        ∙ sym (get_or-drop (j * width) old s 0))

-- the same of a part whose number of elements comes to the width
pub forbidding_turn :
    (old : List ℕ) (count width first last : ℕ) → length old ≡ count * width →
    (rows row : List ℕ) (j n : ℕ) → n ≡ width → j < count → Forbidding old width first last rows j →
    length row ≡ length (mid_of (j * width) n rows) → at row ≡ kept (between first last) (at (mid_of (j * width) n rows)) →
    Forbidding old width first last (put_mid (j * width) n rows row) (j + 1)
forbidding_turn old count width first last whole rows row j n en l h same e =
    rw en (forbidding_row old count width first last whole rows row j l h (rw en at same) (rw en at e))

-- the places of the levels from low on and below above, where place 0 holds the level `top`
between_places : (low above top s : ℕ) → s ≤ top → between (top + 1 - above) (top + 1 - low) (top - s) ≡ between low above s
unfolding between
between_places low above top s l = ap₂ (λ (a b : Bool). a && b) first last ∙ and_comm (ltb s above) (leb low s)
  where
    first : leb (top + 1 - above) (top - s) ≡ ltb s above
    first =
        ⊎_elim (λ b. le-leb (top + 1 - above) (top - s) (omega arith) ∙ sym (lt-ltb s above b))
        (λ b. lt-leb (top + 1 - above) (top - s) (omega arith) ∙ sym (le-ltb s above b)) (below_or_not s above)

    last : ltb (top - s) (top + 1 - low) ≡ leb low s
    last =
        ⊎_elim (λ b. le-ltb (top - s) (top + 1 - low) (omega arith) ∙ sym (lt-leb low s b))
        (λ b. lt-ltb (top - s) (top + 1 - low) (omega arith) ∙ sym (le-leb low s b)) (below_or_not s low)

    and_comm : (a b : Bool) → a && b ≡ b && a
    and_comm true true = refl
    and_comm true false = refl
    and_comm false true = refl
    and_comm false false = refl

-- and by the level
pub forbidden_levels :
    (shape : Shape) (top : ℕ) → top < shape.width → (old rows : List ℕ) →
    ((k : ℕ) → k < shape.rows → (i : ℕ) → i < shape.width → at (row_with shape rows k) i ≡ kept (allowed_places shape top) (at (row_with shape old k)) i) →
    (k : ℕ) → k < shape.rows → (s : ℕ) → s ≤ top →
    values_in shape top rows k s ≡ kept (between shape.low shape.above) (values_in shape top old k) s
unfolding kept
forbidden_levels shape top fits old rows h k l s m =
    h k l (top - s) (omega arith)
    ∙ ap (λ (b : Bool). cond b (values_in shape top old k s) 0) (between_places shape.low shape.above top s m)
