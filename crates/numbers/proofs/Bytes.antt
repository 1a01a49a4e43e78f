-- A number that is read byte by byte.
use Prim.Native.Nat.{ℕ, ◌+◌, ◌*◌, ◌^◌, ◌<◌}
use mathlib.Core.Path.{◌≡◌, refl, sym, ap, ◌∙◌}
use mathlib.Core.List.{List, [], ◌∷◌, ◌++◌, foldl-append}
use native.Mathlib.Nat.{lt_of_lt_of_le}
use native.Mathlib.Numerals.{add-one}
use native.Mathlib.Omega.{arith}
use lib.ListN.{length, get_or, take, drop, length-drop}
use lib.Pow.{pow-add, pow_mono}
use lib.Seq.{take-suc, get_or-drop}
use Rattle.numbers.specs.Bytes.{big_endian}

-- one more byte at the end
big_endian_snoc : (bs : List ℕ) (b : ℕ) → big_endian (bs ++ b ∷ []) ≡ big_endian bs * 256 + b
unfolding big_endian
big_endian_snoc bs b = foldl-append _ 0 bs (b ∷ [])

-- x is the number of the first k bytes from a place, and fits them.
pub record Reading (bs : List ℕ) (at x k : ℕ) : Type 0 where
  pub so_far : x ≡ big_endian (take k (drop at bs))
  pub fits : x < 2 ^ (8 * k)

module _ (bs : List ℕ) (at : ℕ) where
  pub reading_none : Reading bs at 0 0
  unfolding big_endian
  reading_none = record { so_far = refl; fits = omega arith }

  module _ (x k : ℕ) (before : Reading bs at x k) where
    -- with one more byte it fits as many
    more_fits : (b : ℕ) → b < 2 ^ 8 → x * 256 + b < 2 ^ (8 * (k + 1))
    more_fits b byte =
        let more : 8 * (k + 1) ≡ 8 * k + 8 = omega arith in
        let wider : 2 ^ (8 * (k + 1)) ≡ 2 ^ (8 * k) * 2 ^ 8 = ap (λ n. 2 ^ n) more ∙ pow-add 2 (8 * k) 8 in
        omega (arith, before.fits)

    pub more_fits_word : (b : ℕ) → b < 2 ^ 8 → k < 8 → x * 256 + b < 2 ^ 64
    more_fits_word b byte short = lt_of_lt_of_le (more_fits b byte) (pow_mono {j = 64} (omega arith))

    pub reading_more :
        (b : ℕ) → b ≡ get_or bs (at + k) 0 → at + k < length bs → b < 2 ^ 8 → Reading bs at (x * 256 + b) (k + 1)
    reading_more b next inside byte =
        record {
          so_far =
              sym
              (rw (add-one, take-suc (drop at bs) k 0 (simp length-drop (omega arith)), big_endian_snoc, get_or-drop, ← before.so_far, ← next));
          fits = more_fits b byte;
        }
