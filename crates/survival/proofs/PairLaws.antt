-- Laws of two rows in pairs: the number at each place, and the loop that fills them in (`Filling` of `paired`).
use Prim.Native.Nat.{ℕ, zero, suc, ◌+◌, ◌*◌, ◌/◌, ◌%◌, ◌<◌, ◌≤◌}
use mathlib.Core.Path.{◌≡◌, refl, sym, ap, ap₂, ◌∙◌}
use mathlib.Core.Bool.{cond}
use mathlib.Core.List.{List, ◌∷◌}
use native.Mathlib.Omega.{arith}
use lib.Dec.{eqb}
use lib.ListN.{length, get_or, set}
use Rattle.model.specs.MonthRule.{Row}
use Rattle.model.specs.CountRow.{tabulate}
use Rattle.model.proofs.Counts.{length_tabulate, get_d_tabulate}
use Rattle.model.proofs.Filling.{Filling, filling_more, filling_done}
use Rattle.survival.specs.Openings.{interleaved}

-- what each place of the pairs holds: the first row's value at an even place, the second's at an odd one
unfoldable pub paired : Row → Row → Row
paired low high k = cond (eqb (k % 2) 0) (low (k / 2)) (high (k / 2))

pub paired_first : (low high : Row) (v : ℕ) → paired low high (2 * v) ≡ low v
unfolding paired
paired_first low high v =
    let even : 2 * v % 2 ≡ 0 = omega arith in
    let half : 2 * v / 2 ≡ v = omega arith in
    rw (even, half)

pub paired_second : (low high : Row) (v : ℕ) → paired low high (2 * v + 1) ≡ high v
unfolding paired
paired_second low high v =
    let odd : (2 * v + 1) % 2 ≡ 1 = omega arith in
    let half : (2 * v + 1) / 2 ≡ v = omega arith in
    rw (odd, half)

-- numbers that are the rows' at these places are the pairs
pairs_from : (n : ℕ) (f low high : Row) → ((v : ℕ) → f (2 * v) ≡ low v) → ((v : ℕ) → f (2 * v + 1) ≡ high v) → tabulate (2 * n) f ≡ interleaved n low high
unfolding tabulate interleaved
pairs_from zero f low high first second = refl
pairs_from (suc n) f low high first second =
    let two : 2 * suc n ≡ suc (suc (2 * n)) = omega arith in
    rw two
    (ap₂ (λ x l. x ∷ l) (first 0)
    (ap₂ (λ x l. x ∷ l) (second 0)
    (pairs_from n (λ k. f (suc (suc k))) (λ v. low (suc v)) (λ v. high (suc v))
    (λ v. ap f (omega arith) ∙ first (suc v))
    (λ v. ap f (omega arith) ∙ second (suc v)))))

pub pairs_are : (n : ℕ) (low high : Row) → tabulate (2 * n) (paired low high) ≡ interleaved n low high
pairs_are n low high = pairs_from n (paired low high) low high (paired_first low high) (paired_second low high)

pub pairs_length : (n : ℕ) (low high : Row) → length (interleaved n low high) ≡ 2 * n
pairs_length n low high = rw (← pairs_are n low high) (length_tabulate (2 * n) (paired low high))

-- the two numbers of a pair
module _ (n : ℕ) (low high : Row) (v : ℕ) (l : v < n) where
  pub first_of : get_or (interleaved n low high) (2 * v) 0 ≡ low v
  first_of = rw (← pairs_are n low high) (get_d_tabulate (2 * n) (paired low high) (2 * v) (omega arith) ∙ paired_first low high v)

  pub second_of : get_or (interleaved n low high) (2 * v + 1) 0 ≡ high v
  second_of = rw (← pairs_are n low high) (get_d_tabulate (2 * n) (paired low high) (2 * v + 1) (omega arith) ∙ paired_second low high v)

-- rows that agree as far as the pairs go
pub pairs_agree :
    (n : ℕ) (low high low' high' : Row) → ((v : ℕ) → v < n → low v ≡ low' v) → ((v : ℕ) → v < n → high v ≡ high' v) →
    interleaved n low high ≡ interleaved n low' high'
unfolding interleaved
pairs_agree zero low high low' high' first second = refl
pairs_agree (suc n) low high low' high' first second =
    ap₂ (λ x l. x ∷ l) (first 0 (omega arith))
    (ap₂ (λ x l. x ∷ l) (second 0 (omega arith))
    (pairs_agree n (λ v. low (suc v)) (λ v. high (suc v)) (λ v. low' (suc v)) (λ v. high' (suc v)) (λ v l. first (suc v) (omega arith)) (λ v l. second (suc v) (omega arith))))

-- the first pairs are stored: one more, and all of them
module _ (low high : Row) (start row : List ℕ) (v : ℕ) (before : Filling (paired low high) start row (2 * v)) where
  pub pair_more :
      (a b : ℕ) → 2 * v + 1 < length row → a ≡ low v → b ≡ high v → Filling (paired low high) start (set (set row (2 * v) a) (2 * v + 1) b) (2 * (v + 1))
  pair_more a b inside ea eb =
      let two : 2 * v + 1 + 1 ≡ 2 * (v + 1) = omega arith in
      let one = filling_more (paired low high) start row (2 * v) before a (omega arith) (ea ∙ sym (paired_first low high v)) in
      rw (← two) (filling_more (paired low high) start (set row (2 * v) a) (2 * v + 1) one b (omega (arith, one.same, before.same)) (eb ∙ sym (paired_second low high v)))

  pub pairs_done : (n : ℕ) → length start ≡ 2 * n → n ≤ v → row ≡ interleaved n low high
  pairs_done n size all =
      filling_done (paired low high) start row (2 * v) before (omega (arith, before.same))
      ∙ ap (λ (k : ℕ). tabulate k (paired low high)) size
      ∙ pairs_are n low high
