-- `record::head` meets its contract: a word for each field.
use Rattle.test_mixtures.proofs.record.head.Goals as goal

pub returns : goal.returns
returns c =
    λ i. record {
      months = c.word.ensures i;
      opening = c.word-2.ensures i;
      sizes = c.word-3.ensures i;
      income = c.word-4.ensures i;
    }
