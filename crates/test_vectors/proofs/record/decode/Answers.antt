-- `record::decode` meets its contract: a word or a byte for each field.
use lib.ListN.{get_or}
use Rattle.test_vectors.specs.Records.{record_of}
use Rattle.test_vectors.proofs.record.decode.Goals as goal

pub returns : goal.returns
unfolding record_of
returns c = (
  c.in-Ok.ensures,
  λ i. record {
    kind = c.in-Ok.kind;
    head =
        record {
          months = c.word.ensures i;
          opening = c.word-2.ensures i;
          sizes = c.word-3.ensures i;
          income = c.word-4.ensures i;
        };
    number = c.word-5.ensures i;
    target = c.number.ensures i;
    room = c.word-6.ensures i;
    fill = c.number-2.ensures i;
    fill_byte = get_or c.args.words.now 63 0;
    length = c.word-7.ensures i;
  },
)
