-- `up_to` meets its contract: the list serves a shorter table too.
use native.Mathlib.Nat.{le_trans}
use Rattle.claims.proofs.ListingLaws.{listing_take, total_take_le}
use Rattle.claims.proofs.table.ListedTable.up_to.Goals as goal

pub invariant_of-result : goal.invariant_of-result
invariant_of-result c =
    let table = c.args.self.now in
    record {
      listing = listing_take table.severity.now table.sizes.now table.dense c.args.most c.requires table.listing;
      weights_fit = le_trans (total_take_le c.args.most table.severity.now) table.weights_fit;
    }
