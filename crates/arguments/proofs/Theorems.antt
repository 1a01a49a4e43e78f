-- What holds of numbers and questions as they are written. Assumes nothing.
use Prim.Native.Nat.{ℕ, zero, suc, ◌/◌, ◌^◌, ◌≤◌, ◌<◌, min}
use mathlib.Core.Path.{◌≡◌, refl, ap, ◌∙◌}
use mathlib.Core.Bool.{Bool, true, false, cond}
use mathlib.Core.List.{List, [], ◌∷◌}
use mathlib.Core.Logic.{⊎_elim}
use native.Mathlib.Nat.{pow-suc}
use native.Mathlib.Omega.{arith}
use borrow.Author.Tests.{ltb-true, lt-ltb, le-ltb, ne_eqb}
use lib.Dec.{ltb}
use lib.ListN.{length, length-append}
use Rattle.model.specs.declared.Question.TheVariants.{Both, High, Low}
use Rattle.model.specs.Limits.{max_claims, max_level}
use Rattle.model.specs.Sums.{any}
use Rattle.model.specs.Refusal.{outside}
use Rattle.model.proofs.SumLaws.{none_append, below_or_not}
use Rattle.text.specs.Text.{ascii, last_digit, digits, decimal}
use Rattle.arguments.specs.Numbers.{not_digit, is_number, with_digit, spelled, most_number, number_of}
use Rattle.numbers.specs.Same.{same}
use Rattle.arguments.specs.Words.{by_word, question_of}
use Rattle.arguments.specs.Words.{read_as as asked_as}
use Rattle.arguments.proofs.Spelling.{read_as, spelled_more}

-- A number that is printed reads back: its digits spell it, and are digits.
tens_spell : (n : ℕ) (tens : List ℕ) (small : Bool) → ltb n 10 ≡ small → spelled tens ≡ n / 10 → spelled (cond small [] tens) ≡ n / 10
unfolding spelled
tens_spell n tens true e are = omega (arith, ltb-true n 10 e)
tens_spell n tens false e are = are

digits_spell : (places n : ℕ) → n < 10 ^ places → spelled (digits places n) ≡ n
unfolding digits spelled
digits_spell zero n h = omega arith
digits_spell (suc places) n h =
    spelled_more (cond (ltb n 10) [] (digits places (n / 10))) (last_digit n)
    ∙ ap (λ t. with_digit t (last_digit n)) (tens_spell n _ (ltb n 10) refl (digits_spell places (n / 10) (omega (arith, pow-suc 10 places))))
    ∙ omega arith

no_more : (small : Bool) (tens : List ℕ) → any not_digit tens ≡ false → any not_digit (cond small [] tens) ≡ false
unfolding any
no_more true tens none = refl
no_more false tens none = none

digits_only : (places n : ℕ) → any not_digit (digits places n) ≡ false
unfolding digits any not_digit
digits_only zero n = refl
digits_only (suc places) n =
    none_append not_digit (cond (ltb n 10) [] (digits places (n / 10))) _
    (no_more (ltb n 10) _ (digits_only places (n / 10)))
    (rw (le-ltb (last_digit n) 48 (omega arith), le-ltb 57 (last_digit n) (omega arith)))

pub reads_back : (n : ℕ) → n ≤ most_number → number_of (decimal n) ≡ read_as n
unfolding number_of is_number decimal digits
reads_back n small =
    let front = cond (ltb n 10) [] (digits 19 (n / 10)) in
    let some : length (digits 20 n) ≡ 0 → ⊥ = λ z. omega (arith, z, length-append front (last_digit n ∷ [])) in
    let whole : min n most_number ≡ n = omega arith in
    rw (ne_eqb (length (digits 20 n)) 0 some, digits_only 20 n, digits_spell 20 n (omega arith), whole)

-- A question in the report's words is read as it is: its word, and its number in decimal.
pub words_read : (n : ℕ) → n ≤ most_number → (question_of 2 (ascii "both") (decimal n) ≡ asked_as (Both n)) × ((question_of 2 (ascii "high") (decimal n) ≡ asked_as (High n)) × (question_of 2 (ascii "low") (decimal n) ≡ asked_as (Low n)))
unfolding question_of by_word same
words_read n small = rw (reads_back n small) (refl, (refl, refl))

-- A number that was cut off is outside the limits of a question as the number itself is: it is refused with 10.
pub outside_as_written :
    (argument : List ℕ) → is_number argument ≡ true →
    (outside (Both (number_of argument).value) ≡ outside (Both (spelled argument)))
    × ((outside (High (number_of argument).value) ≡ outside (High (spelled argument))) × (outside (Low (number_of argument).value) ≡ outside (Low (spelled argument))))
unfolding number_of outside
outside_as_written argument readable = rw readable (cut max_claims (spelled argument) (omega arith), (cut max_level (spelled argument) (omega arith), cut max_level (spelled argument) (omega arith)))
  where
    cut : (limit n : ℕ) → limit < most_number → ltb limit (min n most_number) ≡ ltb limit n
    cut limit n l =
        ⊎_elim
        (λ (m : limit < n). rw (lt-ltb limit n m, lt-ltb limit (min n most_number) (omega arith)))
        (λ (m : n ≤ limit). rw (le-ltb limit n m, le-ltb limit (min n most_number) (omega arith)))
        (below_or_not limit n)
