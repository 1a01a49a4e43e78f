-- Laws of forbidden levels: a row whose two ends are set to 0 is the row kept between them.
use mathlib.Core.Path.{◌≡◌, refl, sym, ◌∙◌, ap, fun_ext}
use mathlib.Core.Logic.{⊎_elim}
use mathlib.Core.Bool.{Bool, true, false, ◌&&◌, cond}
use mathlib.Core.List.{List, [], ◌++◌, append-nil}
use Prim.Native.Nat.{ℕ, zero, suc, ◌+◌, ◌-◌, ◌≤◌, ◌<◌, min}
use native.Mathlib.Omega.{arith}
use lib.Dec.{leb, ltb}
use lib.ListN.{length, get_or, take, drop, replicate, length-drop, length-replicate, drop_of_length-le, get_or-append, get_or-eq_default}
use lib.Seq.{length-take-le, length_front, get_or-take, get_or-drop, get_or-append-add}
use borrow.Author.Tests.{le-leb, lt-leb, lt-ltb, le-ltb}
use borrow.Rule.Slice.PartMut.{mid_of, post_of, put_mid}
use Rattle.model.specs.MonthRule.{kept}
use Rattle.month_rows.specs.Rows.{at, between}
use Rattle.model.proofs.SumLaws.{below_or_not}

pub getD_zeros : (n k : ℕ) → ◌≡◌ {A = ℕ} (get_or (replicate n 0) k 0) 0
getD_zeros zero k = refl
getD_zeros (suc n) zero = refl
getD_zeros (suc n) (suc k) = getD_zeros n k

-- what follows a list, by its distance
pub get_d_past : (xs ys : List ℕ) (n k : ℕ) → length xs ≡ n → n ≤ k → get_or (xs ++ ys) k 0 ≡ get_or ys (k - n) 0
get_d_past xs ys n k e l =
    let whole : k ≡ length xs + (k - n) = omega arith in
    ap (λ (i : ℕ). get_or (xs ++ ys) i 0) whole ∙ get_or-append-add xs ys (k - n) 0

low_end : (n : ℕ) (xs : List ℕ) (s : ℕ) → get_or (replicate n 0 ++ drop n xs) s 0 ≡ cond (leb n s) (get_or xs s 0) 0
low_end n xs s = ⊎_elim before after (below_or_not s n)
  where
    before : s < n → get_or (replicate n 0 ++ drop n xs) s 0 ≡ cond (leb n s) (get_or xs s 0) 0
    before l =
        rw (lt-leb n s l)
        (get_or-append (replicate n 0) (drop n xs) 0 s (omega (arith, length-replicate {A = ℕ} n 0)) ∙ getD_zeros n s)

    after : n ≤ s → get_or (replicate n 0 ++ drop n xs) s 0 ≡ cond (leb n s) (get_or xs s 0) 0
    after l =
        let whole : n + (s - n) ≡ s = omega arith in
        rw (le-leb n s l)
        (get_d_past (replicate n 0) (drop n xs) n s (length-replicate {A = ℕ} n 0) l
        ∙ get_or-drop n xs (s - n) 0
        ∙ ap (λ (i : ℕ). get_or xs i 0) whole)

high_end : (n r : ℕ) (xs : List ℕ) → n ≤ length xs → (s : ℕ) → get_or (take n xs ++ replicate r 0) s 0 ≡ cond (ltb s n) (get_or xs s 0) 0
high_end n r xs h s = ⊎_elim before after (below_or_not s n)
  where
    count : length (take n xs) ≡ n
    count = length-take-le n xs h

    before : s < n → get_or (take n xs ++ replicate r 0) s 0 ≡ cond (ltb s n) (get_or xs s 0) 0
    before l =
        rw (lt-ltb s n l)
        (get_or-append (take n xs) (replicate r 0) 0 s (omega (arith, count)) ∙ get_or-take n xs s 0 l)

    after : n ≤ s → get_or (take n xs ++ replicate r 0) s 0 ≡ cond (ltb s n) (get_or xs s 0) 0
    after l = rw (le-ltb s n l) (get_d_past (take n xs) (replicate r 0) n s count l ∙ getD_zeros r (s - n))

-- tests that agree inside a row keep the same of it
kept_inside : (xs : List ℕ) (s : ℕ) (t u : Bool) → (s < length xs → t ≡ u) → cond t (get_or xs s 0) 0 ≡ cond u (get_or xs s 0) 0
kept_inside xs s t u same = ⊎_elim (λ l. rw (same l)) (λ l. rw (get_or-eq_default xs 0 {n = s} l) (nothing t ∙ sym (nothing u))) (below_or_not s (length xs))
  where
    nothing : (t : Bool) → ◌≡◌ {A = ℕ} (cond t 0 0) 0
    nothing true = refl
    nothing false = refl

leb_min : (low n s : ℕ) → s < n → leb (min low n) s ≡ leb low s
leb_min low n s l =
    ⊎_elim (λ b. lt-leb (min low n) s (omega arith) ∙ sym (lt-leb low s b)) (λ a. le-leb (min low n) s (omega arith) ∙ sym (le-leb low s a)) (below_or_not s low)

ltb_min : (above n s : ℕ) → s < n → ltb s (min above n) ≡ ltb s above
ltb_min above n s l =
    ⊎_elim (λ b. lt-ltb s (min above n) (omega arith) ∙ sym (lt-ltb s above b)) (λ a. le-ltb s (min above n) (omega arith) ∙ sym (le-ltb s above a)) (below_or_not s above)

kept_both : (a b : Bool) (v : ℕ) → cond b (cond a v 0) 0 ≡ cond (a && b) v 0
kept_both true true v = refl
kept_both true false v = refl
kept_both false true v = refl
kept_both false false v = refl

-- the row after its low end was filled, and then its high end
forbidden_at :
    (xs ys : List ℕ) (low above : ℕ) → ys ≡ replicate (min low (length xs)) 0 ++ drop (min low (length xs)) xs → length ys ≡ length xs → (r : ℕ) →
    at (take (min above (length ys)) ys ++ replicate r 0) ≡ kept (between low above) (at xs)
unfolding kept between
forbidden_at xs ys low above e n r =
    fun_ext
    (λ s.
    high_end (min above (length ys)) r ys (omega arith) s
    ∙ kept_inside ys s (ltb s (min above (length ys))) (ltb s above) (ltb_min above (length ys) s)
    ∙ ap (λ (v : ℕ). cond (ltb s above) v 0) (ap (λ (l : List ℕ). get_or l s 0) e ∙ low_end (min low (length xs)) xs s
    ∙ kept_inside xs s (leb (min low (length xs)) s) (leb low s) (leb_min low (length xs) s))
    ∙ kept_both (leb low s) (ltb s above) (get_or xs s 0))

-- the same of the two parts as they are lent and come back
pub forbidden :
    (xs front back : List ℕ) (low above first last : ℕ) →
    first ≡ min low (length xs) → front ≡ replicate (length (take first xs)) 0 →
    last ≡ min above (length (front ++ drop first xs)) →
    back ≡ replicate (length (mid_of last (length (front ++ drop first xs) - last) (front ++ drop first xs))) 0 →
    at (put_mid last (length (front ++ drop first xs) - last) (front ++ drop first xs) back) ≡ kept (between low above) (at xs)
forbidden xs front back low above first last ef el eg eb =
    let ys : List ℕ = front ++ drop first xs in
    let inside : length (take first xs) ≡ first = length-take-le first xs (omega arith) in
    let filled : ys ≡ replicate (min low (length xs)) 0 ++ drop (min low (length xs)) xs = rw (← ef, ← inside, ← el) refl in
    let count : length ys ≡ length xs = length_front xs front first (ap length el ∙ length-replicate {A = ℕ} (length (take first xs)) 0) in
    let rest : post_of last (length ys - last) ys ≡ [] =
    drop_of_length-le (drop last ys) {i = length ys - last} (omega (arith, length-drop last ys)) in
    rw (rest, append-nil, eg, eb) (forbidden_at xs ys low above filled count (length (mid_of last (length ys - last) ys)))
