-- Laws of the filled sizes as a question lists them: the loops that list them, and the part of a list that lies within a range.
use mathlib.Core.Path.{◌≡◌, refl, sym, ◌∙◌, ap}
use mathlib.Core.Bool.{Bool, true, false, cond}
use mathlib.Core.List.{List, [], ◌∷◌, ◌++◌, append_assoc}
use mathlib.Core.Logic.{⊎_elim}
use Prim.Native.Nat.{ℕ, zero, suc, ◌+◌, ◌-◌, ◌≤◌, zero-le, ◌<◌, min}
use native.Mathlib.Nat.{le_refl, le_trans, le_of_suc-le-suc, sub-add_cancel}
use native.Mathlib.Numerals.{add-one}
use native.Mathlib.Omega.{arith}
use lib.Dec.{leb, eqb-suc-zero}
use Rattle.std.proofs.Common.{not, eqb, ltb}
use Rattle.std.specs.List.{prefix_len}
use borrow.Author.Tests.{leb-false, le-leb, lt-leb, lt-ltb, le-ltb}
use lib.ListN.{length, get_or, take, drop, set, length-append, length-set, length-take, length-drop}
use lib.Seq.{take_all, take-suc-set, get_or-take}
use Rattle.model.specs.Limits.{max_sizes}
use Rattle.model.specs.Sums.{total}
use Rattle.model.specs.Plan.{nth}
use Rattle.model.specs.FilledSizes.{filled_sizes}
use Rattle.model.proofs.SumLaws.{below_or_not}
use Rattle.model.proofs.FilledLaws.{filled_from, filled_more, filled_same, filled_inside, filled_agree}
use Rattle.claims.specs.Listing.{in_range, gapless, NoGap, ListsRange, Listing}

-- a list whose first number lies within a bound, and one whose first does not
pub range_keep : (most x : ℕ) (xs : List ℕ) → x ≤ most → in_range most (x ∷ xs) ≡ x ∷ xs
unfolding in_range
range_keep most x xs l = rw (le-leb x most l)

pub range_pass : (most x : ℕ) (xs : List ℕ) → most < x → in_range most (x ∷ xs) ≡ in_range most xs
unfolding in_range
range_pass most x xs l = rw (lt-leb x most l)

range_all : (most : ℕ) (xs : List ℕ) → ((k : ℕ) → k < length xs → get_or xs k 0 ≤ most) → in_range most xs ≡ xs
unfolding in_range
range_all most [] h = refl
range_all most (x ∷ xs) h = range_keep most x xs (h 0 (omega arith))

-- The filled sizes within a narrower range are those of that range.
range_filled : (F : List ℕ) (n m : ℕ) → n ≤ m → in_range n (filled_sizes F m) ≡ filled_sizes F n
range_filled F n m l = (rw (sub-add_cancel l) at (filled_from F Narrowed n first more same (m - n))).1
  where
    Narrowed : ℕ → List ℕ → Type 0
    Narrowed k xs = (n ≤ k) × (in_range n xs ≡ filled_sizes F n)

    first : Narrowed n (filled_sizes F n)
    first = (le_refl n, range_all n (filled_sizes F n) (λ k i. (filled_inside F n k i).1))

    more : (k : ℕ) (xs : List ℕ) → 0 < nth F (suc k) → Narrowed k xs → Narrowed (suc k) (suc k ∷ xs)
    more k xs w h = (omega (arith, h.0), range_pass n (suc k) xs (omega (arith, h.0)) ∙ h.1)

    same : (k : ℕ) (xs : List ℕ) → nth F (suc k) ≡ 0 → Narrowed k xs → Narrowed (suc k) xs
    same k xs z h = (omega (arith, h.0), h.1)

-- a narrower range of a narrower range
pub range_of_range : (n m : ℕ) (xs : List ℕ) → n ≤ m → in_range n (in_range m xs) ≡ in_range n xs
unfolding in_range
range_of_range n m [] l = refl
range_of_range n m (x ∷ xs) l = go (leb x m) refl (range_of_range n m xs l)
  where
    go : (b : Bool) → leb x m ≡ b → in_range n (in_range m xs) ≡ in_range n xs → in_range n (cond b (x ∷ xs) (in_range m xs)) ≡ in_range n (x ∷ xs)
    go true e h = refl
    go false e h = let beyond = leb-false x m e in h ∙ sym (range_pass n x xs (omega arith))

one_more : (n : ℕ) → 1 + n ≡ suc n
one_more n = omega arith

-- past the numbers at the front that lie beyond a bound
pub in_range_is : (most : ℕ) (xs : List ℕ) → drop (prefix_len (λ x. ltb most x) xs) xs ≡ in_range most xs
unfolding in_range
in_range_is most [] = refl
in_range_is most (x ∷ xs) =
    let past : ℕ = prefix_len (λ x. ltb most x) xs in
    ⊎_elim
    (λ l. rw (lt-ltb most x l, lt-leb x most l) (ap (λ (k : ℕ). drop k (x ∷ xs)) (one_more past) ∙ in_range_is most xs))
    (λ l. rw (le-ltb most x l, le-leb x most l) refl)
    (below_or_not most x)

empty : (xs : List ℕ) → length xs ≡ 0 → xs ≡ []
empty [] e = refl
empty (x ∷ xs) e = absurd (omega (arith, e))

positive : (w : ℕ) → ¬ (w ≡ 0) → 0 < w
positive zero n = absurd (n refl)
positive (suc w) n = omega arith

-- the sizes before the first gap
pub gapless_is : (F : List ℕ) → length (take (prefix_len (λ f. not (eqb f 0)) F) F) ≡ gapless F
unfolding gapless
gapless_is [] = refl
gapless_is (zero ∷ F) = refl
gapless_is (suc f ∷ F) = rw (lt-ltb 0 (suc f) (omega arith), eqb-suc-zero f) (ap (λ (k : ℕ). length (take k (suc f ∷ F))) (one_more (prefix_len (λ f. not (eqb f 0)) F)) ∙ ap suc (gapless_is F))

pub gapless_le : (F : List ℕ) → gapless F ≤ length F
unfolding gapless
gapless_le [] = le_refl 0
gapless_le (zero ∷ F) = zero-le
gapless_le (suc f ∷ F) = rw (lt-ltb 0 (suc f) (omega arith)) (omega (arith, gapless_le F))

pub gapless_filled : (F : List ℕ) → NoGap F (gapless F)
unfolding gapless
gapless_filled F = record { filled = λ i l m. go F i l }
  where
    go : (F : List ℕ) (i : ℕ) → i < gapless F → 0 < get_or F i 0
    go [] i l = absurd (omega arith)
    go (zero ∷ F) i l = absurd (omega arith)
    go (suc f ∷ F) zero l = omega arith
    go (suc f ∷ F) (suc i) l = go F i (le_of_suc-le-suc (rw (lt-ltb 0 (suc f) (omega arith)) at l))

-- The loop that lists the filled sizes, from the largest down: the listed ones and those of the sizes still to come are the whole.
pub record Listed (F sizes : List ℕ) (count x : ℕ) : Type 0 where
  pub room : length sizes ≡ max_sizes
  pub fits : count + x ≤ length F
  pub whole : take count sizes ++ filled_sizes F x ≡ filled_sizes F (length F)

pub listed_filled :
    (F sizes : List ℕ) (count x : ℕ) → length F ≤ max_sizes → 0 < x → ¬ (get_or F (x - 1) 0 ≡ 0) →
    Listed F sizes count x → Listed F (set sizes count (x - 1 + 1)) (count + 1) (x - 1)
unfolding nth
listed_filled F sizes count x small l w h =
    let here : suc (x - 1) ≡ x = omega arith in
    let same : x - 1 + 1 ≡ x = omega arith in
    let front : take (count + 1) (set sizes count x) ≡ take count sizes ++ (x ∷ []) =
    rw add-one (take-suc-set sizes count x (omega (arith, h.room, h.fits))) in
    let longer : filled_sizes F x ≡ x ∷ filled_sizes F (x - 1) = rw here at (filled_more F (x - 1) (positive (get_or F (x - 1) 0) w)) in
    record {
      room = length-set sizes count (x - 1 + 1) ∙ h.room;
      fits = omega (arith, h.fits);
      whole = rw (same, front, append_assoc (take count sizes) (x ∷ []) (filled_sizes F (x - 1)), ← longer) h.whole;
    }

pub listed_empty :
    (F sizes : List ℕ) (count x : ℕ) → 0 < x → get_or F (x - 1) 0 ≡ 0 → Listed F sizes count x → Listed F sizes count (x - 1)
unfolding nth
listed_empty F sizes count x l e h =
    let here : suc (x - 1) ≡ x = omega arith in
    let same : filled_sizes F x ≡ filled_sizes F (x - 1) = rw here at (filled_same F (x - 1) e) in
    record {
      room = h.room;
      fits = omega (arith, h.fits);
      whole = rw (← same) h.whole;
    }

-- numbers that all lie within a bound, after others
range_append : (most : ℕ) (xs ys : List ℕ) → in_range most ys ≡ ys → in_range most (xs ++ ys) ≡ in_range most xs ++ ys
unfolding in_range
range_append most [] ys h = h
range_append most (x ∷ xs) ys h = go (leb x most) (range_append most xs ys h)
  where
    go :
        (b : Bool) → in_range most (xs ++ ys) ≡ in_range most xs ++ ys →
        cond b (x ∷ (xs ++ ys)) (in_range most (xs ++ ys)) ≡ cond b (x ∷ xs) (in_range most xs) ++ ys
    go true e = refl
    go false e = e

-- what is listed serves every range, and every shorter table
pub listing_is :
    (F sizes : List ℕ) (dense : ℕ) → sizes ++ filled_sizes F dense ≡ filled_sizes F (length F) → dense ≡ gapless F → Listing F sizes dense
unfolding in_range
listing_is F sizes dense e d =
    record {
      ranges = λ n l. ⊎_elim (λ low. narrow n low) (λ high. wide n l (omega arith)) (below_or_not n dense);
      no_gap = rw d (gapless_filled F);
    }
  where
    ys : List ℕ
    ys = filled_sizes F dense

    fits : dense ≤ length F
    fits = rw d (gapless_le F)

    wide : (n : ℕ) → n ≤ length F → dense ≤ n → ListsRange F (in_range n sizes) dense n
    wide n l m =
        let least : min n dense ≡ dense = omega arith in
        let kept : in_range n ys ≡ ys = range_all n ys (λ k i. omega (arith, filled_inside F dense k i)) in
        rw least (sym (range_append n sizes ys kept) ∙ ap (in_range n) e ∙ range_filled F n (length F) l)

    none : in_range dense sizes ≡ []
    none = empty (in_range dense sizes) (omega (arith, length-append (in_range dense sizes) ys, ap length (rw least at (wide dense fits (le_refl dense)))))
      where
        least : min dense dense ≡ dense
        least = omega arith

    narrow : (n : ℕ) → n < dense → ListsRange F (in_range n sizes) dense n
    narrow n m =
        let least : min n dense ≡ n = omega arith in
        let gone : in_range n sizes ≡ [] = sym (range_of_range n dense sizes (omega arith)) ∙ ap (in_range n) none in
        rw (least, gone)

pub listing_take : (F sizes : List ℕ) (dense own : ℕ) → own ≤ length F → Listing F sizes dense → Listing (take own F) sizes dense
unfolding nth
listing_take F sizes dense own o h =
    record {
      ranges = λ n l.
          let fits : n ≤ own = omega (arith, length-take own F, l) in
          ap (λ (ys : List ℕ). in_range n sizes ++ ys) (sym (agree (min n dense) (omega arith))) ∙ h.ranges n (omega arith) ∙ agree n fits;
      no_gap = record { filled = λ i m l. rw (same i (omega (arith, length-take own F))) (h.no_gap.filled i m (omega (arith, length-take own F, l))) };
    }
  where
    same : (i : ℕ) → i < own → get_or (take own F) i 0 ≡ get_or F i 0
    same i l = get_or-take own F i 0 l

    agree : (n : ℕ) → n ≤ own → filled_sizes F n ≡ filled_sizes (take own F) n
    agree n l = filled_agree F (take own F) n (λ i m. sym (same i (omega arith)))

-- a shorter table weighs no more
pub total_take_le : (n : ℕ) (F : List ℕ) → total (take n F) ≤ total F
unfolding total
total_take_le zero F = zero-le
total_take_le (suc n) [] = zero-le
total_take_le (suc n) (f ∷ F) = omega (arith, total_take_le n F)

-- The list from `first` on serves every range up to `limit`.
pub record ListedFrom (F sizes : List ℕ) (dense limit first : ℕ) : Type 0 where
  pub inside : first ≤ length sizes
  pub ranges : (n : ℕ) → n ≤ limit → ListsRange F (in_range n (drop first sizes)) dense n

pub listed_from_start : (F sizes : List ℕ) (dense limit : ℕ) → limit ≤ length F → Listing F sizes dense → ListedFrom F sizes dense limit 0
listed_from_start F sizes dense limit l h = record { inside = omega arith; ranges = λ n m. h.ranges n (le_trans m l) }

-- without the sizes beyond a narrower range it is that range's list, and serves every range up to it
pub listed_from_turn :
    (F sizes : List ℕ) (dense limit first most next less : ℕ) → most ≤ limit → less ≤ most → drop next sizes ≡ in_range most (drop first sizes) → next ≤ length sizes →
    ListedFrom F sizes dense limit first → ListsRange F (drop next sizes) dense most × ListedFrom F sizes dense less next
listed_from_turn F sizes dense limit first most next less l m e i h = (
  rw e (h.ranges most l),
  record {
    inside = i;
    ranges = λ n k. rw (e, range_of_range n most (drop first sizes) (le_trans k m)) (h.ranges n (le_trans (le_trans k m) l));
  },
)

-- the list of a range as it is lent
pub listed_part :
    (F sizes : List ℕ) (dense first most n : ℕ) → ListsRange F (drop first sizes) dense most → most ≡ n →
    ListsRange F (take (length sizes - first) (drop first sizes)) dense n
listed_part F sizes dense first most n h e = rw (take_all (length sizes - first) (drop first sizes) (omega (arith, length-drop first sizes)), ← e) h
