-- What a record begins with: 47 words of 8 bytes, most significant byte first.
use Rattle.std.specs.Prelude.{ℕ, Option, Some, None, zero, suc, ◌+◌, ◌*◌, cond, List, [], ◌∷◌, ◌++◌, eqb, take, drop}
use Rattle.numbers.specs.Bytes.{big_endian}
use Rattle.model.specs.declared.Head.{Head}
use Rattle.model.specs.declared.Question.{Question}
use Rattle.model.specs.declared.Question.TheVariants.{Survive, Both, High, Low}
use Rattle.model.specs.Limits.{max_plans}
use Rattle.test_mixtures.specs.declared.record.Kind.{Kind}
use Rattle.test_mixtures.specs.declared.record.Kind.TheVariants.{Call, Report, Model}
use Rattle.test_mixtures.specs.declared.record.Record.{Record}

-- the word of 8 bytes and the number of 4 bytes at a place, counted in words and in numbers: number 2i + 1 is the last half of word i
abbrev pub word_at : List ℕ → ℕ → ℕ
word_at bytes i = big_endian (take 8 (drop (8 * i) bytes))

abbrev pub number_at : List ℕ → ℕ → ℕ
number_at bytes i = big_endian (take 4 (drop (4 * i) bytes))

-- what a function gives at 0 to n − 1
unfoldable pub first_of : {A : Type 0} → ℕ → (ℕ → A) → List A
first_of zero f = []
first_of (suc n) f = first_of n f ++ (f n ∷ [])

-- the row of so many numbers that bytes hold
abbrev pub numbers_in : ℕ → List ℕ → List ℕ
numbers_in count bytes = first_of count (number_at bytes)

-- the heads, four words each from word 2 on
abbrev pub head_at : List ℕ → ℕ → Head
head_at bytes i =
    record {
      months = word_at bytes (4 * i + 2);
      opening = word_at bytes (4 * i + 3);
      sizes = word_at bytes (4 * i + 4);
      income = word_at bytes (4 * i + 5);
    }

abbrev pub heads_in : List ℕ → List Head
heads_in bytes = first_of max_plans (head_at bytes)

-- the weights, the last halves of the words from word 34 on
abbrev pub weight_at : List ℕ → ℕ → ℕ
weight_at bytes i = number_at bytes (2 * i + 69)

abbrev pub weights_in : List ℕ → List ℕ
weights_in bytes = first_of max_plans (weight_at bytes)

-- the questions in their order, survive first
unfoldable pub question_of : ℕ → ℕ → Question
question_of kind n = cond (eqb kind 1) (Both n) (cond (eqb kind 2) (High n) (cond (eqb kind 3) (Low n) Survive))

-- the kinds in their order, a call first
unfoldable pub kind_of : ℕ → Option Kind
kind_of x = cond (eqb x 0) (Some Call) (cond (eqb x 1) (Some Report) (cond (eqb x 2) (Some Model) None))

-- the words in their order: kind, count, heads, weights, question, its number, room, fill, length; of the fill, the last half
unfoldable pub record_of : List ℕ → Record
record_of bytes =
    record {
      kind = kind_of (word_at bytes 0);
      mixture = record { count = word_at bytes 1; heads = heads_in bytes; weights = weights_in bytes };
      question = question_of (word_at bytes 42) (word_at bytes 43);
      room = word_at bytes 44;
      fill = number_at bytes 91;
      length = word_at bytes 46;
    }
