-- `list_sizes` meets its contract: the sizes before the first gap, and those listed above it.
use mathlib.Core.Path.{sym, ap, ◌∙◌}
use mathlib.Core.List.{◌++◌}
use native.Mathlib.Omega.{arith}
use lib.ListN.{take}
use lib.Seq.{length-take-le}
use Rattle.model.specs.FilledSizes.{filled_sizes}
use Rattle.claims.proofs.ListingLaws.{gapless_le, listing_is}
use Rattle.claims.proofs.sizes.list_sizes.Goals as goal

pub filled_above-requires : goal.filled_above-requires
filled_above-requires c =
    (c.requires, omega (arith, c.gapless_sizes-dense.ensures, gapless_le c.args.severity.now))

pub returns : goal.returns
returns c =
    let filled = c.filled_above in
    let dense = c.gapless_sizes-dense in record {
      listed = listing_is c.args.severity.now _ filled.result.dense
          (ap (λ d. take filled.result.count filled.result.sizes ++ filled_sizes c.args.severity.now d) filled.ensures.sized.1 ∙ filled.ensures.listed) (filled.ensures.sized.1 ∙ dense.ensures);
      sized = (filled.ensures.sized.0, sym (length-take-le filled.result.count filled.result.sizes filled.ensures.sized.0));
    }
