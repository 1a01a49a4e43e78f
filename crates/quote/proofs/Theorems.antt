-- What holds of the input that is read, and of a target as it is written. Assumes nothing.
use Prim.Native.Nat.{ℕ, ◌^◌, min}
use mathlib.Core.Path.{◌≡◌, refl}
use mathlib.Core.Bool.{Bool, true, false, ◌||◌}
use mathlib.Core.List.{List}
use native.Mathlib.Omega.{arith}
use borrow.Author.Tests.{ltb-true, ltb-false, lt-ltb, ne_eqb}
use lib.Dec.{ltb, eqb}
use lib.ListN.{take}
use Rattle.model.specs.Limits.{row_room}
use Rattle.model.specs.Scale.{S}
use Rattle.codec.specs.Input.{input_room}
use Rattle.codec.proofs.LongInput.{reads_enough as LongInput·reads-enough}
use Rattle.opening_search.specs.Refusal.{target_outside}
use Rattle.report_lines.specs.Lines.{refused_line}
use Rattle.quote.specs.Quote.{quote_of}
use Rattle.arguments.specs.Numbers.{is_number, spelled, most_number, number_of}
use Rattle.quote.proofs.Laws.{quote_refused}

-- what the program prints is the quote of all its input
pub reads_enough : (bytes : List ℕ) (target : ℕ) → quote_of (take input_room bytes) target ≡ quote_of bytes target
reads_enough bytes target = LongInput·reads-enough (λ part. quote_of part target) refused_line row_room (λ part. quote_refused part target) bytes

-- a number cut off at 32 bits is outside exactly if the number itself is
cut_outside : (n : ℕ) → target_outside (min n most_number) ≡ target_outside n
unfolding target_outside S
cut_outside n = go (ltb n (2 ^ 32)) refl
  where
    go : (small : Bool) → ltb n (2 ^ 32) ≡ small → (eqb (min n most_number) 0 || ltb (2 ^ 30) (min n most_number)) ≡ (eqb n 0 || ltb (2 ^ 30) n)
    go true e =
        let same : min n most_number ≡ n = omega (arith, ltb-true n (2 ^ 32) e) in
        rw same
    go false e =
        let large = ltb-false n (2 ^ 32) e in
        let cut : min n most_number ≡ most_number = omega arith in
        rw (cut, ne_eqb n 0 (λ z. omega arith), lt-ltb (2 ^ 30) n (omega arith))

-- "It refuses a target of 0 or above S": of the number that was written, however long it is
pub outside_as_written : (argument : List ℕ) → is_number argument ≡ true → target_outside (number_of argument).value ≡ target_outside (spelled argument)
unfolding number_of
outside_as_written argument readable = rw readable (cut_outside (spelled argument))
