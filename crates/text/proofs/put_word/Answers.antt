-- `text::put_word` meets its contract: the word is written over the part after the text's end. Assumes nothing.
use native.Mathlib.Omega.{arith}
use borrow.Author.Rules.{rules}
use Rattle.text.proofs.TextLaws.{appended_part}
use Rattle.text.proofs.put_word.Goals as goal

pub returns : goal.returns
returns c = appended_part _ _ c.copy_from_slice.ensures.after (omega arith) (search rules)
