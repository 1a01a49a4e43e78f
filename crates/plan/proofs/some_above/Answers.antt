use Rattle.std.proofs.Common.{rules, ◌<◌, ltb}
use Rattle.std.specs.Prelude.{IsTrue, SomeIndex, slice_index, ◌↔◌}
use borrow.Author.Tests.{lt-ltb, ltb-true}
use Rattle.model.proofs.ListLaws.{any_is}
use Rattle.plan.proofs.some_above.Goals as goal

pub returns : goal.returns
returns c =
    let limit = c.args.limit in
    let found : IsTrue c.any.result ↔ SomeIndex c.args.row.now (λ k. limit < slice_index c.args.row.now k) = search rules in
    any_is (ltb limit) (λ x. limit < x) (λ x. (lt-ltb limit x, ltb-true limit x)) _ _ found
