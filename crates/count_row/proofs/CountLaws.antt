-- Laws of the count row: a row rewritten in place from the last place down, and the months in their order.
use mathlib.Core.Path.{◌≡◌, refl, sym, ◌∙◌, ap}
use mathlib.Core.List.{List, [], ◌∷◌, ◌++◌, append-nil, append_assoc}
use Prim.Native.Nat.{ℕ, zero, suc, ◌+◌, ◌*◌, ◌-◌, ◌≤◌, zero-le, ◌<◌}
use native.Mathlib.Nat.{add_comm}
use native.Mathlib.Numerals.{add-one}
use native.Mathlib.Omega.{arith}
use lib.ListN.{length, get_or, take, drop, set, drop_of_length-le, get_or-append}
use borrow.Author.Tests.{ne_eqb}
use lib.Seq.{take-length, take-suc, drop-cons, drop-length, set_at, length-take-le, get_or-take, ext_get_or}
use Rattle.model.specs.Limits.{places}
use Rattle.model.specs.declared.Rounding.{Rounding}
use Rattle.model.specs.declared.Rounding.TheVariants.{Down, Up}
use Rattle.model.specs.Scale.{S, quotient}
use Rattle.model.specs.MonthRule.{Row}
use Rattle.model.specs.CountRow.{one_before, count_month, no_months, after_months, count_row, tabulate}
use Rattle.model.specs.declared.Head.{Head}
use Rattle.model.specs.Plan.{plan_of}
use Rattle.model.specs.Bounds.{EnclosesCount, count_lower, count_upper}
use Rattle.model.specs.Refusal.{plan_refusal, Accepted}
use Rattle.model.proofs.Theorems.{count_enclosure}
use Rattle.count_row.specs.declared.CountRow.{CountRow}
use Rattle.claims.specs.Values.{Parts}
use Rattle.month_rows.specs.Rows.{at}
use Rattle.count_row.specs.Counts.{CountParts, rows_after}
use Rattle.count_row.specs.Answers.{CountAnswer, count_rows, count_refused, count_answer}
use Rattle.model.proofs.Counts.{length_tabulate, get_d_tabulate, count_month_fits, no_months_fit}

-- the row after one more month
abbrev pub count_after : Rounding → ℕ → List ℕ → Row
count_after round P old = count_month round P (at old)

-- the row while the places from k on are new and the rest is old
unfoldable pub new_from : List ℕ → Rounding → ℕ → ℕ → List ℕ
new_from old round P k = take k old ++ drop k (tabulate (length old) (count_after round P old))

module _ (old : List ℕ) (round : Rounding) (P : ℕ) where
  new_count : length (tabulate (length old) (count_after round P old)) ≡ length old
  new_count = length_tabulate (length old) (count_after round P old)

  pub new_from_start : new_from old round P (length old) ≡ old
  unfolding new_from
  new_from_start =
      rw (take-length old, drop_of_length-le (tabulate (length old) (count_after round P old)) {i = length old} (omega (arith, new_count))) (append-nil old)

  pub new_from_turn :
      (row : List ℕ) (k v : ℕ) → k < length old → row ≡ new_from old round P (k + 1) → v ≡ count_after round P old k →
      set row k v ≡ new_from old round P k
  unfolding new_from
  new_from_turn row k v l e ev =
      rw (
        e,
        ev,
        add-one,
        take-suc old k 0 l,
        append_assoc (take k old) (get_or old k 0 ∷ []) (drop (suc k) (tabulate (length old) (count_after round P old))),
        set_at
            (take k old)
            (get_or old k 0)
            (drop (suc k) (tabulate (length old) (count_after round P old)))
            (count_after round P old k)
            k
            (length-take-le k old (omega arith)),
        drop-cons (tabulate (length old) (count_after round P old)) k 0 (omega (arith, new_count)),
        get_d_tabulate (length old) (count_after round P old) k l,
      )

  pub new_from_end : new_from old round P 0 ≡ tabulate (length old) (count_after round P old)
  unfolding new_from
  new_from_end = refl

  -- the places up to k are still old
  pub new_from_below : (row : List ℕ) (k i : ℕ) → k < length old → row ≡ new_from old round P (k + 1) → i ≤ k → get_or row i 0 ≡ get_or old i 0
  unfolding new_from
  new_from_below row k i l e m =
      rw e
      (get_or-append (take (k + 1) old) (drop (k + 1) (tabulate (length old) (count_after round P old))) 0 i
      (omega (arith, length-take-le (k + 1) old (omega arith)))
      ∙ get_or-take (k + 1) old i 0 (omega arith))

  -- the value at a place
  pub place_value :
      (row : List ℕ) (k v : ℕ) → 0 < k → k < length old → row ≡ new_from old round P (k + 1) →
      v ≡ quotient round ((S - P) * get_or row k 0 + P * get_or row (k - 1) 0) S → v ≡ count_after round P old k
  unfolding count_month one_before
  place_value row zero v p l e ev = absurd (omega arith)
  place_value row (suc k) v p l e ev =
      let less : suc k - 1 ≡ k = omega arith in
      rw (ev, less, new_from_below row (suc k) (suc k) l e (omega arith), new_from_below row (suc k) k l e (omega arith))
      (ap (λ (n : ℕ). quotient round n S) (add_comm ((S - P) * get_or old (suc k) 0) (P * get_or old k 0)))

  pub first_value :
      (row : List ℕ) (v : ℕ) → 0 < length old → row ≡ new_from old round P 1 → v ≡ quotient round ((S - P) * get_or row 0 0 + P * 0) S →
      v ≡ count_after round P old 0
  unfolding count_month one_before
  first_value row v l e ev =
      rw (ev, new_from_below row 0 0 l e (omega arith)) (ap (λ (n : ℕ). quotient round n S) (add_comm ((S - P) * get_or old 0 0) (P * 0)))

-- of a row with all its places
pub count_after_whole :
    (round : Rounding) (P : ℕ) (old new : List ℕ) → length old ≡ places → new ≡ tabulate (length old) (count_after round P old) →
    new ≡ tabulate places (count_month round P (at old))
count_after_whole round P old new n e = rw (← n) e

parts_tabulate : (n : ℕ) (row : Row) → ((k : ℕ) → row k ≤ S) → Parts (tabulate n row)
unfolding tabulate
parts_tabulate n row h = record { each = go n row h }
  where
    go : (n : ℕ) (row : Row) → ((k : ℕ) → row k ≤ S) → (k : ℕ) → get_or (tabulate n row) k 0 ≤ S
    go zero row h k = zero-le
    go (suc n) row h zero = h 0
    go (suc n) row h (suc k) = go n (λ i. row (suc i)) (λ i. h (suc i)) k

-- a month at place k reads no place above k, and so do all months
count_month_agree :
    (round : Rounding) (P n : ℕ) (row row' : Row) → ((k : ℕ) → k < n → row k ≡ row' k) →
    (k : ℕ) → k < n → count_month round P row k ≡ count_month round P row' k
unfolding count_month one_before
count_month_agree round P n row row' h zero l = rw (h 0 l)
count_month_agree round P n row row' h (suc k) l = rw (h (suc k) l, h k (omega arith))

after_months_agree :
    (round : Rounding) (Ps : List ℕ) (n : ℕ) (row row' : Row) → ((k : ℕ) → k < n → row k ≡ row' k) →
    (k : ℕ) → k < n → after_months (count_month round) Ps row k ≡ after_months (count_month round) Ps row' k
unfolding after_months
after_months_agree round [] n row row' h = h
after_months_agree round (P ∷ Ps) n row row' h = after_months_agree round Ps n (count_month round P row) (count_month round P row') (count_month_agree round P n row row' h)

-- Where the months from t on still have to come: what they make of a row is the count row.
abbrev pub Ahead : Rounding → List ℕ → List ℕ → ℕ → Type 0
Ahead round chances xs t = (k : ℕ) → k < places → after_months (count_month round) (drop t chances) (at xs) k ≡ count_row round chances k

ahead_turn :
    (round : Rounding) (chances xs : List ℕ) (t : ℕ) → t < length chances → Ahead round chances xs t →
    Ahead round chances (tabulate places (count_month round (get_or chances t 0) (at xs))) (t + 1)
unfolding after_months
ahead_turn round chances xs t l h k m =
    after_months_agree round (drop (t + 1) chances) places (at (tabulate places new)) new (get_d_tabulate places new) k m
    ∙ rw add-one (ap (λ Ps. after_months (count_month round) Ps (at xs) k) (sym (drop-cons chances t 0 l)) ∙ h k m)
  where
    new : Row
    new = count_month round (get_or chances t 0) (at xs)

ahead_end :
    (round : Rounding) (chances xs : List ℕ) (t : ℕ) → t ≡ length chances → length xs ≡ places → Ahead round chances xs t →
    xs ≡ tabulate places (count_row round chances)
unfolding after_months
ahead_end round chances xs t e n h =
    ext_get_or 0 xs (tabulate places (count_row round chances)) (n ∙ sym (length_tabulate places (count_row round chances)))
    (λ k l. rw (e, drop-length chances) at (h k (omega (arith, n))) ∙ sym (get_d_tabulate places (count_row round chances) k (omega (arith, n))))

-- the row after no months
ahead_start : (round : Rounding) (chances : List ℕ) → Ahead round chances (tabulate places (count_row round [])) 0
unfolding count_row after_months
ahead_start round chances k l = after_months_agree round chances places (at (tabulate places no_months)) no_months (get_d_tabulate places no_months) k l

-- the rows while the months go: whole, in parts of S, and on their way to the count row
pub record Counting (chances : List ℕ) (row : CountRow) (t : ℕ) : Type 0 where
  pub parts : CountParts row
  pub lower_ahead : Ahead Down chances row.lower t
  pub upper_ahead : Ahead Up chances row.upper t

whole_parts :
    (low high : Row) → ((k : ℕ) → low k ≤ S) → ((k : ℕ) → high k ≤ S) →
    CountParts (record { lower = tabulate places low; upper = tabulate places high })
whole_parts low high hl hh =
    record {
      lower_length = length_tabulate places low;
      upper_length = length_tabulate places high;
      lower_parts = parts_tabulate places low hl;
      upper_parts = parts_tabulate places high hh;
    }

pub counting_rows_start : (chances : List ℕ) → Counting chances (count_rows []) 0
unfolding count_rows count_row after_months
counting_rows_start chances =
    record {
      parts = whole_parts no_months no_months no_months_fit no_months_fit;
      lower_ahead = ahead_start Down chances;
      upper_ahead = ahead_start Up chances;
    }

pub counting_rows_turn :
    (chances : List ℕ) → Parts chances → (row : CountRow) (t : ℕ) → t < length chances → Counting chances row t →
    Counting chances (rows_after (get_or chances t 0) row) (t + 1)
unfolding rows_after
counting_rows_turn chances h row t l c =
    record {
      parts =
          whole_parts (count_month Down P (at row.lower)) (count_month Up P (at row.upper))
          (λ k. (count_month_fits Down P (h.each t) (at row.lower) c.parts.lower_parts.each k).value)
          (λ k. (count_month_fits Up P (h.each t) (at row.upper) c.parts.upper_parts.each k).value);
      lower_ahead = ahead_turn Down chances row.lower t l c.lower_ahead;
      upper_ahead = ahead_turn Up chances row.upper t l c.upper_ahead;
    }
  where
    P : ℕ
    P = get_or chances t 0

pub counting_rows_end : (chances : List ℕ) (row : CountRow) (t : ℕ) → t ≡ length chances → Counting chances row t → row ≡ count_rows chances
unfolding count_rows
counting_rows_end chances row t e c =
    let low : row.lower ≡ tabulate places (count_row Down chances) = ahead_end Down chances row.lower t e c.parts.lower_length c.lower_ahead in
    let high : row.upper ≡ tabulate places (count_row Up chances) = ahead_end Up chances row.upper t e c.parts.upper_length c.upper_ahead in
    λ i. record { lower = low i; upper = high i }

-- the answer of a refusal, and of the rows of a plan's chances
pub refused_answer : (h : Head) (row : List ℕ) (n : ℕ) → n ≡ plan_refusal h row → (n ≡ 0 → ⊥) → count_refused n ≡ count_answer h row
unfolding count_answer
refused_answer h row n e ne = rw (← e, ne_eqb n 0 ne)

pub chances_are : (h : Head) (row : List ℕ) → (plan_of h row).chances ≡ take h.months row
unfolding plan_of
chances_are h row = refl

module _ (h : Head) (row : List ℕ) (accepted : Accepted h row) (rows : CountRow) (are : rows ≡ count_rows (plan_of h row).chances) where
  pub count_given : ◌≡◌ {A = CountAnswer} (record { refusal = 0; row = rows }) (count_answer h row)
  unfolding count_answer
  count_given = rw (are, accepted)

  pub count_encloses :
      (k : ℕ) → k < places → EnclosesCount (plan_of h row) k (get_or rows.lower k 0) (get_or rows.upper k 0)
  unfolding count_rows
  count_encloses k l =
      let lower : get_or rows.lower k 0 ≡ count_lower (plan_of h row) k =
      ap (λ r. get_or r.lower k 0) are ∙ get_d_tabulate places (count_row Down (plan_of h row).chances) k l in
      let upper : get_or rows.upper k 0 ≡ count_upper (plan_of h row) k =
      ap (λ r. get_or r.upper k 0) are ∙ get_d_tabulate places (count_row Up (plan_of h row).chances) k l in
      rw (lower, upper) (count_enclosure h row accepted k)
