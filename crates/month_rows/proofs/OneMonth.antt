-- Laws of all rows going back one month, from the row with the most claims left on.
use mathlib.Core.Path.{◌≡◌, refl, sym, ◌∙◌, ap, ap₂, fun_ext}
use mathlib.Core.Bool.{Bool, true, false}
use mathlib.Core.Option.{none, some}
use mathlib.Core.List.{List}
use Prim.Native.Nat.{ℕ, suc, ◌+◌, ◌*◌, ◌-◌, ◌≤◌, zero-le, ◌<◌}
use native.Mathlib.Nat.{le_refl, suc-mul, sub-zero}
use native.Mathlib.Numerals.{add-one}
use native.Mathlib.Omega.{arith}
use borrow.Author.Count.{below_more}
use lib.ListN.{length, take, drop}
use lib.Seq.{take-length, get_or-drop}
use Rattle.model.specs.declared.Rounding.{Rounding}
use Rattle.model.specs.MonthRule.{Row, exact_month, month, claimed_row}
use Rattle.model.proofs.Month.{claim_sum_none, claim_sum_zero}
use Rattle.claims.specs.Values.{from_top, Parts}
use Rattle.month_rows.specs.Rows.{at, Replaced, own_sizes, after_claim_by}
use Rattle.month_rows.proofs.RowLaws.{claim_sum_agree, row_before}
use Rattle.month_rows.proofs.ManyRows.{rows_at, row_before_row}

-- a month reads the level above by the income of the quiet row, and the levels below that of the claimed row
pub month_agree :
    (round : Rounding) (income : ℕ) (F : List ℕ) (P : ℕ) (X Y X' Y' : Row) (s : ℕ) →
    X (s + income) ≡ X' (s + income) → ((k : ℕ) → k < s + income → Y k ≡ Y' k) → month round income F P X Y s ≡ month round income F P X' Y' s
unfolding month exact_month
month_agree round income F P X Y X' Y' s ex ey = rw (ex, claim_sum_agree F Y Y' (s + income) (λ k a b. ey k b))

-- the row with no claims left: where claims are tallied, a claim adds nothing
month_own :
    (round : Rounding) (income : ℕ) (F : List ℕ) (P : ℕ) (X : Row) (rows : ℕ → Row) (tallied : Bool) (s : ℕ) →
    month round income (take (own_sizes tallied (length F)) F) P X (rows 0) s ≡ month round income F P X (claimed_row rows (after_claim_by tallied 0)) s
unfolding month exact_month own_sizes after_claim_by claimed_row
month_own round income F P X rows true s =
    rw (claim_sum_none (rows 0) (s + income), claim_sum_agree F (claimed_row rows none) (λ _. 0) (s + income) nothing, claim_sum_zero F (s + income))
  where
    nothing : (k : ℕ) → 0 < k → k < s + income → claimed_row rows none k ≡ 0
    nothing k a b = refl
month_own round income F P X rows false s =
    rw (take-length F) (month_agree round income F P X (rows 0) X (claimed_row rows (some 0)) s refl same)
  where
    same : (k : ℕ) → k < s + income → rows 0 k ≡ claimed_row rows (some 0) k
    same k l = refl

pub own_sizes_le : (tallied : Bool) (sizes : ℕ) → own_sizes tallied sizes ≤ sizes
unfolding own_sizes
own_sizes_le true sizes = zero-le
own_sizes_le false sizes = le_refl sizes

-- the rows before a month by the claims left, from those after it
abbrev pub rows_before : Rounding → ℕ → List ℕ → ℕ → Bool → (ℕ → Row) → ℕ → Row
rows_before round income F P tallied rows k = month round income F P (rows k) (claimed_row rows (after_claim_by tallied k))

-- a row with claims left: a claim leads to the row with one fewer
claimed_next : (rows : ℕ → Row) (tallied : Bool) (k : ℕ) → claimed_row rows (after_claim_by tallied (suc k)) ≡ rows k
unfolding claimed_row after_claim_by
claimed_next rows tallied k = fun_ext (λ s. refl)

-- what lies from an index on is as it was, so a row there is
row_same :
    (top a b : ℕ) (rows old : List ℕ) → a ≤ b → ((k : ℕ) → a ≤ k → at rows k ≡ at old k) → from_top top (drop b rows) ≡ from_top top (drop b old)
row_same top a b rows old l h =
    fun_ext (λ s. get_or-drop b rows (top - s) 0 ∙ h (b + (top - s)) (omega arith) ∙ sym (get_or-drop b old (top - s) 0))

-- the rows by the claims left, where row `last` has none: `values_in` of a shape
abbrev pub rows_left : ℕ → ℕ → ℕ → List ℕ → ℕ → Row
rows_left last width top xs k = from_top top (drop ((last - k) * width) xs)

-- Rows taken back one after the other, from the first. Of the rows before row j the first places are new, by the claims left and the level, and those
-- beyond old; from row j on all is old.
pub record GoingBack (last width live : ℕ) (new : ℕ → Row) (old rows : List ℕ) (j : ℕ) : Type 0 where
  pub same_length : length rows ≡ length old
  pub parts : Parts rows
  pub done : (i : ℕ) → i < j → (p : ℕ) → p < live → rows_at width rows i p ≡ new (last - i) (live - 1 - p)
  pub beyond : (i : ℕ) → i < j → (p : ℕ) → live ≤ p → p < width → rows_at width rows i p ≡ rows_at width old i p
  pub rest : (k : ℕ) → j * width ≤ k → at rows k ≡ at old k

-- a place of a row, by its index in the list
same_place : (a : ℕ) (xs ys : List ℕ) (p : ℕ) → at xs (a + p) ≡ at ys (a + p) → at (drop a xs) p ≡ at (drop a ys) p
same_place a xs ys p e = get_or-drop a xs p 0 ∙ e ∙ sym (get_or-drop a ys p 0)

-- one row more, whose new places are known
going_back_row :
    (last width live : ℕ) → live ≤ width → (new : ℕ → Row) (old rows rows' : List ℕ) (j : ℕ) → GoingBack last width live new old rows j →
    length rows' ≡ length rows → Parts rows' →
    Replaced (j * width) live (λ p. new (last - j) (live - 1 - p)) rows rows' →
    GoingBack last width live new old rows' (j + 1)
going_back_row last width live lw new old rows rows' j h n parts row =
    record {
      same_length = n ∙ h.same_length;
      parts = parts;
      done =
          below_more (λ (i : ℕ). (p : ℕ) → p < live → rows_at width rows' i p ≡ new (last - i) (live - 1 - p)) j
          (λ i b p l. passed i b p (omega arith) ∙ h.done i b p l) (λ p l. get_or-drop (j * width) rows' p 0 ∙ row.inside p l);
      beyond =
          below_more (λ (i : ℕ). (p : ℕ) → live ≤ p → p < width → rows_at width rows' i p ≡ rows_at width old i p) j
          (λ i b p l m. passed i b p m ∙ h.beyond i b p l m)
          (λ p l m. same_place (j * width) rows' old p (row.later (j * width + p) (omega arith) ∙ h.rest (j * width + p) (omega arith)));
      rest = λ k l. row.later k (omega (arith, next)) ∙ h.rest k (omega (arith, next));
    }
  where
    next : (j + 1) * width ≡ j * width + width
    next = rw (add-one, suc-mul)

    passed : (i : ℕ) → i < j → (p : ℕ) → p < width → rows_at width rows' i p ≡ rows_at width rows i p
    passed i b p l = same_place (i * width) rows' rows p (row.earlier (i * width + p) (row_before_row i j width p b l))

-- the row's new values are those of another row as well
replaced_by : (from count : ℕ) (new new' : Row) (xs ys : List ℕ) → ((i : ℕ) → new i ≡ new' i) → Replaced from count new xs ys → Replaced from count new' xs ys
replaced_by from count new new' xs ys e h = record { inside = λ i l. h.inside i l ∙ e i; earlier = h.earlier; later = h.later }

module _ (last width : ℕ) (tallied : Bool) (income : ℕ) (some_income : 0 < income) (top live : ℕ) (levels : live + income ≡ top + 1) (fits : top < width) (old F : List ℕ) (P : ℕ) (round : Rounding) where
  abbrev new : ℕ → Row
  new = rows_before round income F P tallied (rows_left last width top old)

  -- the income, from the places
  below : top + 1 - live ≡ income
  below = omega arith

  -- a row with claims left: a claim leads to the next row
  pub going_back_turn :
      (rows : List ℕ) (j : ℕ) → j < last → GoingBack last width live new old rows j →
      (rows' : List ℕ) → length rows' ≡ length rows → Parts rows' →
      Replaced (j * width) live (row_before round F P (j * width) (j * width + width) top live rows) rows rows' →
      GoingBack last width live new old rows' (j + 1)
  going_back_turn rows j l h rows' n parts row =
      going_back_row last width live (omega arith) new old rows rows' j h n parts (replaced_by (j * width) live _ _ rows rows' same row)
    where
      own : last - j ≡ suc (last - 1 - j)
      own = omega arith

      this : last - suc (last - 1 - j) ≡ j
      this = omega arith

      next : (last - (last - 1 - j)) * width ≡ j * width + width
      next = ap (λ (i : ℕ). i * width) (omega arith) ∙ suc-mul j width

      same : (p : ℕ) → row_before round F P (j * width) (j * width + width) top live rows p ≡ new (last - j) (live - 1 - p)
      same p =
          rw (below, own, claimed_next (rows_left last width top old) tallied (last - 1 - j), this, next, row_same top (j * width) (j * width) rows old (omega arith) h.rest)
          (ap (λ (Y : Row). month round income F P (from_top top (drop (j * width) old)) Y (live - 1 - p))
          (row_same top (j * width) (j * width + width) rows old (omega arith) h.rest))

  -- the row with no claims left, the last one
  pub going_back_end :
      (rows : List ℕ) (j : ℕ) → j ≡ last → GoingBack last width live new old rows j →
      (G : List ℕ) → G ≡ take (own_sizes tallied (length F)) F →
      (rows' : List ℕ) → length rows' ≡ length rows → Parts rows' →
      Replaced (last * width) live (row_before round G P (last * width) (last * width) top live rows) rows rows' →
      GoingBack last width live new old rows' (last + 1)
  going_back_end rows j all h₀ G eo rows' n parts row =
      going_back_row last width live (omega arith) new old rows rows' last h n parts (replaced_by (last * width) live _ _ rows rows' same row)
    where
      h : GoingBack last width live new old rows last
      h = rw all at h₀

      none : last - last ≡ 0
      none = omega arith

      own_row : rows_left last width top old 0 ≡ from_top top (drop (last * width) old)
      own_row = rw (sub-zero last)

      same : (p : ℕ) → row_before round G P (last * width) (last * width) top live rows p ≡ new (last - last) (live - 1 - p)
      same p =
          rw (below, none, eo, row_same top (last * width) (last * width) rows old (omega arith) h.rest)
          (rw (← own_row) (month_own round income F P (rows_left last width top old 0) (rows_left last width top old) tallied (live - 1 - p)))

  -- all rows, by the claims left and the level
  pub going_back_done :
      (rows : List ℕ) (j : ℕ) → last < j → GoingBack last width live new old rows j →
      (k : ℕ) → k ≤ last → (s : ℕ) → s + income ≤ top → rows_left last width (top - income) rows k s ≡ new k s
  going_back_done rows j all h k l s m =
      let claims : last - (last - k) ≡ k = omega arith in
      let level : live - 1 - (top - income - s) ≡ s = omega arith in
      h.done (last - k) (omega arith) (top - income - s) (omega arith) ∙ ap₂ new claims level

  -- and the places beyond, by the claims left
  pub going_back_beyond :
      (rows : List ℕ) (j : ℕ) → last < j → GoingBack last width live new old rows j →
      (k : ℕ) → k ≤ last → (i : ℕ) → top < i + income → i < width → rows_at width rows (last - k) i ≡ rows_at width old (last - k) i
  going_back_beyond rows j all h k l i m b = h.beyond (last - k) (omega arith) i (omega arith) b
