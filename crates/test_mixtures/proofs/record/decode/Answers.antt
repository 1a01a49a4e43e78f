-- `record::decode` meets its contract: a word for each field, and the heads and weights of all plans.
use mathlib.Core.Path.{ap, ap₂, ◌∙◌}
use Rattle.test_mixtures.specs.Records.{question_of, kind_of, record_of}
use Rattle.test_mixtures.proofs.record.decode.Goals as goal

pub returns : goal.returns
unfolding record_of
returns c =
    let asked = c.question.ensures ∙ ap₂ question_of c.word-3.ensures c.word-4.ensures in
    λ i. record {
      kind = (c.kind_of.ensures ∙ ap kind_of c.word.ensures) i;
      mixture =
          record {
            count = c.word-2.ensures i;
            heads = c.heads.ensures i;
            weights = c.weights.ensures i;
          };
      question = asked i;
      room = c.word-5.ensures i;
      fill = c.number.ensures i;
      length = c.word-6.ensures i;
    }
