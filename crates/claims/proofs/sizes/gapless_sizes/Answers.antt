-- `gapless_sizes` meets its contract: how many numbers stand before the first 0.
use mathlib.Core.Path.{◌∙◌}
use Rattle.std.proofs.Common.{rules, tests, not, eqb}
use Rattle.std.proofs.lemmas.Iterator.{YieldsList-from_slice}
use Rattle.std.proofs.lemmas.Iterator.Consumers.{count_from_yields_List}
use Rattle.std.proofs.lemmas.Iterator.Search.{YieldsList-from_take_while}
use Rattle.claims.proofs.ListingLaws.{gapless_is}
use Rattle.claims.proofs.sizes.gapless_sizes.Goals as goal

pub returns : goal.returns
returns c =
    let F = c.args.severity.now in
    count_from_yields_List c.take_while.result _ c.count.ensures.ran
    (YieldsList-from_take_while _ (λ f. not (eqb f 0)) (YieldsList-from_slice F cc) c.take_while.ensures.closure c.take_while.ensures.done (λ x b q k. search (rules, tests)))
    ∙ gapless_is F
