-- What a call that may refuse answers, where nothing is refused and where something is.
use Prim.Native.Nat.{ℕ}
use mathlib.Core.Path.{◌≡◌, refl}
use Rattle.model.specs.declared.Head.{Head}
use Rattle.codec.specs.Answers.{ReadAnswer, WriteAnswer, no_head, head_answer, length_answer}
use Rattle.model.proofs.MemoryLaws.{when_none, when_refused, same_number}

abbrev pub read_as : ℕ → Head → ReadAnswer
read_as n h = record { refusal = n; head = h }

abbrev pub written_as : ℕ → ℕ → WriteAnswer
written_as n bytes = record { refusal = n; length = bytes }

module _ (n : ℕ) (h : Head) where
  pub head_answered : n ≡ 0 → head_answer n h ≡ read_as 0 h
  unfolding head_answer
  head_answered none = when_none _ _ _ none

  pub head_refused : (n ≡ 0 → ⊥) → head_answer n h ≡ read_as n no_head
  unfolding head_answer
  head_refused refused = when_refused _ _ _ refused

  pub head_number : (head_answer n h).refusal ≡ n
  unfolding head_answer
  head_number = same_number (λ (a : ReadAnswer). a.refusal) _ _ _ refl refl

module _ (n bytes : ℕ) where
  pub length_answered : n ≡ 0 → length_answer n bytes ≡ written_as 0 bytes
  unfolding length_answer
  length_answered none = when_none _ _ _ none

  pub length_refused : (n ≡ 0 → ⊥) → length_answer n bytes ≡ written_as n 0
  unfolding length_answer
  length_refused refused = when_refused _ _ _ refused

  pub length_number : (length_answer n bytes).refusal ≡ n
  unfolding length_answer
  length_number = same_number (λ (a : WriteAnswer). a.refusal) _ _ _ refl refl
