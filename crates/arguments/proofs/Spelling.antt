-- A number that is read digit by digit. Assumes nothing.
use Prim.Native.Nat.{ℕ, ◌+◌, ◌≤◌, ◌<◌, min}
use mathlib.Core.Path.{◌≡◌, refl, sym, ap, ◌∙◌}
use mathlib.Core.Bool.{Bool, true, false, not, ◌||◌}
use mathlib.Core.List.{List, [], ◌∷◌, ◌++◌, foldl-append}
use native.Mathlib.Omega.{arith}
use native.Mathlib.Numerals.{add-one}
use borrow.Author.Tests.{eq-eqb, ne_eqb}
use lib.ListN.{length, get_or, take, drop, drop_of_length-le}
use lib.Seq.{take-suc, take_all, drop-cons}
use Rattle.std.specs.Char.{is_ascii_digit}
use Rattle.std.proofs.lemmas.Bool.Decides.{nat_tests}
use Rattle.model.specs.Sums.{any}
use Rattle.arguments.specs.Numbers.{Number, not_digit, is_number, with_digit, spelled, most_number, number_of}

-- a test over the numbers from an index on, one at a time
module _ (xs : List ℕ) (i : ℕ) (test : ℕ → Bool) where
  any_next : i < length xs → any test (drop i xs) ≡ test (get_or xs i 0) || any test (drop (i + 1) xs)
  unfolding any
  any_next h = rw (add-one, drop-cons xs i 0)

  any_end : length xs ≤ i → any test (drop i xs) ≡ false
  unfolding any
  any_end h = rw (drop_of_length-le xs h)

-- one more digit at the end
pub spelled_more : (bs : List ℕ) (b : ℕ) → spelled (bs ++ b ∷ []) ≡ with_digit (spelled bs) b
unfolding spelled
spelled_more bs b = foldl-append _ 0 bs (b ∷ [])

-- the library's test is both comparisons at once
none_other : (b : ℕ) (r : Bool) → is_ascii_digit b ≡ r → not_digit b ≡ not r
unfolding not_digit
none_other b r e = grind (arith, nat_tests)

-- what was cut off before it is cut off after it
cut_more : (n b : ℕ) → min (with_digit (min n most_number) b) most_number ≡ min (with_digit n b) most_number
cut_more n b = omega arith

-- the two answers
abbrev pub read_as : ℕ → Number
read_as number = record { readable = true; value = number }

abbrev pub unreadable : Number
unreadable = record { readable = false; value = 0 }

-- The bytes before place i are digits, so that the rest decides, and this is the number that they spell.
pub record Spelling (argument : List ℕ) (number i : ℕ) : Type 0 where
  pub within : i ≤ length argument
  pub decides : any not_digit (drop i argument) ≡ any not_digit argument
  pub so_far : number ≡ min (spelled (take i argument)) most_number

module _ (argument : List ℕ) where
  pub nothing_spelled : length argument ≡ 0 → number_of argument ≡ unreadable
  unfolding number_of is_number
  nothing_spelled empty = rw (eq-eqb _ 0 empty)

  pub spelling_none : Spelling argument 0 0
  unfolding spelled
  spelling_none = record { within = omega arith; decides = refl; so_far = refl }

  module _ (number i : ℕ) (read : Spelling argument number i) where
    pub spelling_more :
        i < length argument
        → is_ascii_digit (get_or argument i 0) ≡ true
        → Spelling argument (min (with_digit number (get_or argument i 0)) most_number) (i + 1)
    spelling_more inside digit =
        record {
          within = omega arith;
          decides = sym (any_next argument i not_digit inside ∙ rw (none_other _ _ digit)) ∙ read.decides;
          so_far =
              ap (λ n. min (with_digit n (get_or argument i 0)) most_number) read.so_far
              ∙ cut_more _ _
              ∙ sym (rw (add-one, take-suc argument i 0 inside, spelled_more));
        }

    pub spelling_stopped : i < length argument → is_ascii_digit (get_or argument i 0) ≡ false → number_of argument ≡ unreadable
    unfolding number_of is_number
    spelling_stopped inside other =
        let some : any not_digit argument ≡ true = sym read.decides ∙ any_next argument i not_digit inside ∙ rw (none_other _ _ other) in
        rw (ne_eqb (length argument) 0 (λ z. omega (arith, z)), some)

    pub spelling_done :
        (length argument ≡ 0 → ⊥) → length argument ≤ i → number_of argument ≡ read_as number
    unfolding number_of is_number
    spelling_done some all =
        let none : any not_digit argument ≡ false = sym read.decides ∙ any_end argument i not_digit all in
        rw (ne_eqb _ 0 some, none, read.so_far, take_all i argument all)

-- what the loop's goals need
pub ruleset spelling = (nothing_spelled, spelling_none, spelling_more, spelling_stopped, spelling_done)
