-- Laws of a node's value as text: the claims left, and the line by whether the level is allowed.
use mathlib.Core.Path.{◌≡◌}
use mathlib.Core.Bool.{Bool, cond}
use mathlib.Core.List.{List, [], ◌∷◌}
use Prim.Native.Nat.{ℕ, ◌+◌, ◌≤◌}
use lib.ListN.{length}
use Rattle.model.specs.declared.Question.{Question}
use Rattle.model.specs.declared.Question.TheVariants.{Survive, Both, High, Low}
use Rattle.model.specs.declared.Bounds.{Bounds}
use Rattle.text.specs.Text.{ascii, entry, line, Appended}
use Rattle.tree_values.specs.Lines.{left_text}

-- the claims left, where the question counts them, and where it does not
pub left_both : (q : Question) (k j : ℕ) → q ≡ Both j → left_text q k ≡ entry (ascii " left") (k ∷ [])
unfolding left_text
left_both q k j e = rw e

pub left_survive : (q : Question) (k : ℕ) → q ≡ Survive → left_text q k ≡ []
unfolding left_text
left_survive q k e = rw e

pub left_high : (q : Question) (k L : ℕ) → q ≡ High L → left_text q k ≡ []
unfolding left_text
left_high q k L e = rw e

pub left_low : (q : Question) (k L : ℕ) → q ≡ Low L → left_text q k ≡ []
unfolding left_text
left_low q k L e = rw e

-- the value's line, by whether the level is allowed
abbrev pub value_line : Bool → Bounds → List ℕ
value_line allowed b = line (cond allowed [] (ascii " forbidden")) (b.lower ∷ b.upper ∷ [])

pub value_room : (allowed a : Bool) (b : Bounds) (end n : ℕ) → allowed ≡ a → end + length (value_line allowed b) ≤ n → end + length (value_line a b) ≤ n
value_room allowed a b end n e h = rw e at h

pub value_put : {t t' : List ℕ} {at end : ℕ} (allowed a : Bool) (b : Bounds) → allowed ≡ a → Appended t at (value_line a b) t' end → Appended t at (value_line allowed b) t' end
value_put allowed a b e h = rw e h
