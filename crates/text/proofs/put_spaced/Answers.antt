-- `text::put_spaced` meets its contract: a space, then the number. Assumes nothing.
use Rattle.text.proofs.TextLaws.{appended_more}
use Rattle.text.proofs.put_spaced.Goals as goal

pub returns : goal.returns
returns c =
    appended_more c.put_byte-end.ensures c.put_number.ensures
