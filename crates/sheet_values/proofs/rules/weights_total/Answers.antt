-- `rules::weights_total` meets its contract: the weights that were stored, summed.
use mathlib.Core.Path.{◌≡◌, ap, ◌∙◌}
use native.Mathlib.Omega.{arith}
use borrow.Author.Rules.{rules}
use lib.Seq.{length-take-le}
use Rattle.std.specs.List.{sum}
use Rattle.std.proofs.iter.runs.Sources.{sums}
use Rattle.model.specs.Sums.{total}
use Rattle.sheet_values.specs.Rules.{weights}
use Rattle.sheet_values.proofs.RuleLaws.{total_summed}
use Rattle.sheet_values.proofs.rules.weights_total.Goals as goal

pub sum-requires-clause-fits : goal.sum-requires-clause-fits
sum-requires-clause-fits c = search (rules, sums)

pub returns : goal.returns
returns c =
    let summed : c.sum.result ≡ sum c.put_weights.new.row = search rules in
    summed ∙ total_summed c.put_weights.new.row ∙ ap total (c.put_weights.ensures ∙ ap (weights c.args.alpha) (length-take-le _ _ (omega (arith, c.requires.1))))
