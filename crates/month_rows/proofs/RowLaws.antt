-- Laws of rows in memory: a row rewritten in place, upward.
use mathlib.Core.Path.{◌≡◌, sym, ◌∙◌, ap}
use mathlib.Core.List.{List, [], ◌∷◌}
use Prim.Native.Nat.{ℕ, zero, suc, ◌+◌, ◌*◌, ◌-◌, ◌≤◌, zero-le, ◌<◌}
use native.Mathlib.Nat.{le_refl, le_trans}
use native.Mathlib.Omega.{arith}
use borrow.Author.Count.{below_more}
use lib.ListN.{length, get_or, take, drop, set, length-set, length-drop}
use lib.Seq.{length-take-le, get_or-take, get_or-drop, get_or-set_same, get_or-set_other}
use Rattle.model.specs.declared.Head.{Head}
use Rattle.model.specs.declared.Rounding.{Rounding}
use Rattle.model.specs.Scale.{S, quotient}
use Rattle.model.specs.MonthRule.{Row, claim_sum, exact_month, month}
use Rattle.model.specs.FilledSizes.{filled_sum}
use Rattle.model.proofs.Facts.{Facts}
use Rattle.model.proofs.Month.{claim_sum_none, claim_sum_ground, claim_sum_cons}
use Rattle.model.proofs.FilledLaws.{filled_sum_is}
use Rattle.claims.specs.Values.{from_top, Parts}
use Rattle.month_rows.specs.Rows.{Replaced}

-- the claim sum reads the levels above 0 and below its own
pub claim_sum_agree :
    (F : List ℕ) (Y Z : Row) (r : ℕ) → ((s : ℕ) → 0 < s → s < r → Y s ≡ Z s) → claim_sum F Y r ≡ claim_sum F Z r
claim_sum_agree [] Y Z r h = claim_sum_none Y r ∙ sym (claim_sum_none Z r)
claim_sum_agree (f ∷ F) Y Z zero h = claim_sum_ground (f ∷ F) Y 0 zero-le ∙ sym (claim_sum_ground (f ∷ F) Z 0 zero-le)
claim_sum_agree (f ∷ F) Y Z (suc zero) h = claim_sum_ground (f ∷ F) Y 1 (le_refl 1) ∙ sym (claim_sum_ground (f ∷ F) Z 1 (le_refl 1))
claim_sum_agree (f ∷ F) Y Z (suc (suc r)) h =
    rw (
      claim_sum_cons f F Y r,
      claim_sum_cons f F Z r,
      h (suc r) (omega arith) (omega arith),
      claim_sum_agree F Y Z (suc r) (λ s a b. h s a (omega arith)),
    )

-- numbers of at most S: after a store, and in a part
parts_set : (xs : List ℕ) (i v : ℕ) → Parts xs → v ≤ S → Parts (set xs i v)
parts_set xs i v h l = record { each = go xs i h.each }
  where
    go : (xs : List ℕ) (i : ℕ) → ((k : ℕ) → get_or xs k 0 ≤ S) → (k : ℕ) → get_or (set xs i v) k 0 ≤ S
    go [] i h k = h k
    go (x ∷ xs) zero h zero = l
    go (x ∷ xs) zero h (suc k) = h (suc k)
    go (x ∷ xs) (suc i) h zero = h zero
    go (x ∷ xs) (suc i) h (suc k) = go xs i (λ j. h (suc j)) k

getD_take_le : (n : ℕ) (xs : List ℕ) (k : ℕ) → get_or (take n xs) k 0 ≤ get_or xs k 0
getD_take_le zero xs k = zero-le
getD_take_le (suc n) [] k = le_refl 0
getD_take_le (suc n) (x ∷ xs) zero = le_refl x
getD_take_le (suc n) (x ∷ xs) (suc k) = getD_take_le n xs k

pub parts_drop : (xs : List ℕ) (a : ℕ) → Parts xs → Parts (drop a xs)
parts_drop xs a h = record { each = λ k. rw (get_or-drop a xs k 0) (h.each (a + k)) }

pub parts_part : (xs : List ℕ) (a n : ℕ) → Parts xs → Parts (take n (drop a xs))
parts_part xs a n h = record { each = λ k. le_trans (getD_take_le n (drop a xs) k) ((parts_drop xs a h).each k) }

-- the chances of an accepted plan's first months
pub chances_parts : (h : Head) (row : List ℕ) → Facts h row → (months : ℕ) → Parts (take months row)
chances_parts h row f months = parts_part row 0 months (record { each = f.numbers_fit })

pub length_part : (xs : List ℕ) (from to : ℕ) → from ≤ to → to ≤ length xs → length (take (to - from) (drop from xs)) ≡ to - from
length_part xs from to l m = length-take-le (to - from) (drop from xs) (omega (arith, length-drop from xs))

-- The rows while one of them goes back, upward from its first place at `from`: the first i places are new, the rest is old.
pub record Rewriting (old : List ℕ) (from : ℕ) (new : Row) (rows : List ℕ) (i : ℕ) : Type 0 where
  pub same_length : length rows ≡ length old
  pub parts : Parts rows
  pub so_far : Replaced from i new old rows

pub rewriting_turn :
    (old : List ℕ) (from : ℕ) (new : Row) (rows : List ℕ) (i v : ℕ) → Rewriting old from new rows i → from + i < length rows → v ≡ new i → v ≤ S →
    Rewriting old from new (set rows (from + i) v) (i + 1)
rewriting_turn old from new rows i v h l e b =
    record {
      same_length = simp length-set h.same_length;
      parts = parts_set rows (from + i) v h.parts b;
      so_far = record {
        inside = below_more (λ (j : ℕ). get_or (set rows (from + i) v) (from + j) 0 ≡ new j) i passed (get_or-set_same rows (from + i) v 0 l ∙ e);
        earlier = λ k m. others k (λ z. omega (arith, z)) ∙ h.so_far.earlier k m;
        later = λ k m. others k (λ z. omega (arith, z)) ∙ h.so_far.later k (omega arith);
      };
    }
  where
    others : (k : ℕ) → ¬ (k ≡ from + i) → get_or (set rows (from + i) v) k 0 ≡ get_or rows k 0
    others k other = get_or-set_other rows (from + i) k v 0 other

    passed : (j : ℕ) → j < i → get_or (set rows (from + i) v) (from + j) 0 ≡ new j
    passed j m = others (from + j) (λ z. omega (arith, z)) ∙ h.so_far.inside j m

-- the places of a row one month back, with the income top + 1 - live: after a claim the row at `claimed` is read, else the row at `quiet`
abbrev pub row_before : Rounding → List ℕ → ℕ → ℕ → ℕ → ℕ → ℕ → List ℕ → Row
row_before round F P quiet claimed top live old i =
    month round (top + 1 - live) F P (from_top top (drop quiet old)) (from_top top (drop claimed old)) (live - 1 - i)

module _ (old F : List ℕ) (quiet claimed top live P : ℕ) (round : Rounding) (order : quiet ≤ claimed) (levels : live ≤ top) where
  -- what a turn's claim sum reads lies beyond its place, and is still old
  pub sum_beyond :
      (rows : List ℕ) (i : ℕ) → i < live → claimed + top ≤ length rows →
      Rewriting old quiet (row_before round F P quiet claimed top live old) rows i →
      (n : ℕ) (xs : List ℕ) → xs ≡ take (claimed + top - (claimed + i + 1)) (drop (claimed + i + 1) rows) → n ≡ length xs →
      (sum : ℕ) → sum ≡ filled_sum F (from_top n xs) (n + 1) → sum ≡ claim_sum F (from_top top (drop claimed old)) (top - i)
  sum_beyond rows i l fits h n xs ex en sum es =
      let inside : i < top = omega arith in
      let count : length xs ≡ top - (i + 1) = ap length ex ∙ length_part rows (claimed + i + 1) (claimed + top) (omega arith) fits ∙ omega arith in
      let whole : n + 1 ≡ top - i = omega arith in
      es
      ∙ filled_sum_is F (from_top n xs) (n + 1)
      ∙ rw whole (claim_sum_agree F (from_top n xs) (from_top top (drop claimed old)) (top - i) (λ s a b. same s a b (omega arith)))
    where
      same : (s : ℕ) → 0 < s → s < top - i → n ≡ top - (i + 1) → get_or xs (n - s) 0 ≡ get_or (drop claimed old) (top - s) 0
      same s a b e =
          let place : claimed + i + 1 + (n - s) ≡ claimed + (top - s) = omega arith in
          rw ex
          (get_or-take (claimed + top - (claimed + i + 1)) (drop (claimed + i + 1) rows) (n - s) 0 (omega arith)
          ∙ get_or-drop (claimed + i + 1) rows (n - s) 0
          ∙ ap (λ (k : ℕ). get_or rows k 0) place
          ∙ h.so_far.later (claimed + (top - s)) (omega arith)
          ∙ sym (get_or-drop claimed old (top - s) 0))

  pub value_before :
      (i quiet_value sum : ℕ) → i < live → quiet_value ≡ get_or old (quiet + i) 0 → sum ≡ claim_sum F (from_top top (drop claimed old)) (top - i) →
      (value : ℕ) → value ≡ quotient round ((S - P) * S * quiet_value + P * sum) (S * S) → value ≡ row_before round F P quiet claimed top live old i
  unfolding month exact_month
  value_before i quiet_value sum l e f value ev =
      let level : live - 1 - i + (top + 1 - live) ≡ top - i = omega arith in
      let place : top - (top - i) ≡ i = omega arith in
      ev ∙ rw (level, e, f, get_or-drop quiet old (top - (top - i)) 0, place)
