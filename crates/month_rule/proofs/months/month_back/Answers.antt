-- `month_back` meets its contract: the rows lie forbidden, and go back (`month_forbidden`).
use mathlib.Core.Path.{◌∙◌}
use Rattle.month_rows.specs.Shapes.{values_in}
use Rattle.month_rule.specs.Months.{rule_by}
use Rattle.month_rows.proofs.ManyRows.{rows_in_again, forbidden_levels}
use Rattle.month_rule.proofs.AllMonths.{month_forbidden}
use Rattle.month_rule.proofs.months.month_back.Goals as goal

pub all_rows_back-requires : goal.all_rows_back-requires
all_rows_back-requires c = record {
  rows_in = rows_in_again c.args.shape c.args.rows.now c.forbid_rows.new.rows c.requires.rows_in c.forbid_rows.auto.rows c.forbid_rows.ensures.parts;
  top_in = c.requires.top_in;
  chance_fits = c.requires.chance_fits;
}

pub returns : goal.returns
unfolding rule_by
returns c =
    let back = c.all_rows_back in
    let clear = c.forbid_rows in
    let a = c.args in
    let levels = forbidden_levels a.shape a.top c.requires.top_in.inside a.rows.now clear.new.rows clear.ensures.forbidden in record {
      back = λ k l s m.
          back.ensures.rewritten k l s m
          ∙ month_forbidden a.round a.table.now.severity.now a.shape a.top a.chance (values_in a.shape a.top a.rows.now)
          (values_in a.shape a.top clear.new.rows) levels k l s m;
      beyond = λ k l i m b. back.ensures.beyond k l i m b ∙ clear.ensures.forbidden k l i b;
      parts = back.ensures.parts;
    }
