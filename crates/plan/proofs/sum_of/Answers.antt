use Rattle.std.proofs.Common.{rules, ◌≡◌, ◌∙◌}
use Rattle.std.specs.List.{sum}
use Rattle.model.proofs.ListLaws.{total_sum}
use Rattle.plan.proofs.sum_of.Goals as goal

pub returns : goal.returns
returns c =
    let added : c.sum.result ≡ sum c.args.row.now = search rules in
    added ∙ total_sum _
