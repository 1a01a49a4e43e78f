-- `last_rows` meets its contract: two fills, read row by row.
use Rattle.std.proofs.Common.{rules}
use Rattle.model.specs.Scale.{S}
use Rattle.month_rule.proofs.HalfLaws.{last_rows_at, last_rows_parts}
use Rattle.month_rule.proofs.halves.last_rows.Goals as goal

pub returns : goal.returns
unfolding S
returns c =
    let a = c.args in
    let zero = c.fill.ensures.after (λ y e. search rules) in
    let own = c.fill-2.ensures.after (λ y e. search rules) in
    record {
      filled = last_rows_at a.rows.now c.fill.new.self c.fill-2.new.self a.shape c.requires.0 c.requires.1 zero own;
      parts = last_rows_parts a.rows.now c.fill.new.self c.fill-2.new.self a.shape c.requires.0 c.requires.1 zero own;
    }
