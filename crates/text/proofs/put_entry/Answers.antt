use native.Mathlib.Omega.{arith}
use borrow.Author.Rules.{rules}
use Rattle.text.specs.Text.{entry}
use Rattle.text.proofs.TextLaws.{appended_more, appending_start, appending_room, appending_turn, appending_done, entry_length}
use Rattle.text.proofs.put_entry.Goals as goal

pub loop-x-init : goal.loop-x-init
loop-x-init c = appending_start (search rules)

pub put_spaced-end-requires : goal.put_spaced-end-requires
put_spaced-end-requires c =
    let args = c.args in
    appending_room c.loop-x.invariant (search rules)
    (omega (arith, entry_length args.word.now args.numbers.now, c.put_word-end.ensures.ends, c.put_word-end.auto.buffer))

pub loop-x-preserved : goal.loop-x-preserved
loop-x-preserved c =
    appending_turn c.loop-x.invariant (search rules) c.put_spaced-end.auto.buffer c.put_spaced-end.ensures

pub returns : goal.returns
unfolding entry
returns c = appended_more c.put_word-end.ensures (appending_done c.loop-x.invariant (search rules))
