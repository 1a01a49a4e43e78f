-- A question as it is asked of a program, in arguments that have the report's words.
use Rattle.std.specs.Prelude.{ℕ, Bool, true, false, not, ◌||◌, cond, List, eqb, Option, Some, None}
use Rattle.model.specs.declared.Question.{Question}
use Rattle.model.specs.declared.Question.TheVariants.{Survive, Both, High, Low}
use Rattle.numbers.specs.Same.{same}
use Rattle.text.specs.Text.{ascii}
use Rattle.arguments.specs.Numbers.{number_of}

-- A question, and whether the words are one; survive where they are not.
pub record Asked : Type 0 where
  pub readable : Bool
  pub question : Question

-- a question, and words that are none
abbrev pub read_as : Question → Asked
read_as q = record { readable = true; question = q }

abbrev pub unread : Asked
unread = record { readable = false; question = Survive }

-- a question as the code answers it
abbrev pub question_told : Option Question → Asked
question_told None = unread
question_told (Some q) = read_as q

-- the questions that have a number
unfoldable pub by_word : List ℕ → ℕ → Asked
by_word word n =
    cond (same word (ascii "both")) (read_as (Both n))
    (cond (same word (ascii "high")) (read_as (High n))
    (cond (same word (ascii "low")) (read_as (Low n)) unread))

-- the question of so many words: no word is survive, one is its word, two are the word of another question and its number
unfoldable pub question_of : ℕ → List ℕ → List ℕ → Asked
question_of count word number =
    cond (eqb count 0) (read_as Survive)
    (cond (eqb count 1) (cond (same word (ascii "survive")) (read_as Survive) unread)
    (cond (not (number_of number).readable || not (eqb count 2)) unread (by_word word (number_of number).value)))
