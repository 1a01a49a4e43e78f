-- The text of the reserve report, in ASCII: "Numbers are decimal, one space lies between, and each line ends with a newline."
use Rattle.std.specs.Prelude.{ℕ, zero, suc, ◌+◌, ◌/◌, ◌%◌, ◌≤◌, ◌≡◌, cond, List, [], ◌∷◌, ◌++◌, ltb, length, get_or, take, drop}
use Prim.Native.Char.{code}
use Prim.Native.String.{String, [] as empty, ◌∷◌ as ◌then◌}

-- the bytes of a text, each the number of its character
abbrev pub ascii : String → List ℕ
ascii empty = []
ascii (c then s) = code c ∷ ascii s

-- the last digit of n
abbrev pub last_digit : ℕ → ℕ
last_digit n = code "0" + n % 10

-- the digits of n, the most significant first and no 0 in front, of at most so many places
unfoldable pub digits : ℕ → ℕ → List ℕ
digits zero n = []
digits (suc places) n = cond (ltb n 10) [] (digits places (n / 10)) ++ last_digit n ∷ []

-- 20 places hold every number of 64 bits
unfoldable pub decimal : ℕ → List ℕ
decimal n = digits 20 n

-- the texts of 0 to n − 1, one after another
unfoldable pub joined : ℕ → (ℕ → List ℕ) → List ℕ
joined zero text = []
joined (suc n) text = joined n text ++ text n

-- a number after a space
abbrev pub spaced : ℕ → List ℕ
spaced n = ascii " " ++ decimal n

abbrev pub spaced_each : List ℕ → ℕ → List ℕ
spaced_each numbers i = spaced (get_or numbers i 0)

-- a word and its numbers
unfoldable pub entry : List ℕ → List ℕ → List ℕ
entry word numbers = word ++ joined (length numbers) (spaced_each numbers)

-- "Every later line is a word, its number where it has one, lower, upper"
unfoldable pub line : List ℕ → List ℕ → List ℕ
line word numbers = entry word numbers ++ ascii "\n"

-- What appending does: the text up to `at` stays, what was appended stands after it, up to the end, and past that nothing changes.
pub record Appended (before : List ℕ) (at : ℕ) (text : List ℕ) (after : List ℕ) (end : ℕ) : Type 0 where
  pub ends : end ≡ at + length text
  pub inside : end ≤ length after
  pub holds : take end after ≡ take at before ++ text
  pub rest : drop end after ≡ drop end before
