-- `sum` meets its contract: of the list it hands on what lies in range.
use native.Mathlib.Nat.{le_refl}
use native.Mathlib.Omega.{arith}
use Rattle.claims.proofs.ListingLaws.{listed_from_start, listed_from_turn, listed_part}
use Rattle.test_vectors.proofs.sums.sum.Goals as goal

pub claim_sum-claims-requires : goal.claim_sum-claims-requires
claim_sum-claims-requires c =
    let most = c.min-most in
    let table = c.args.table.now in
    let range =
    listed_part table.severity.now table.sizes.now table.dense c.first_within-first.result most.result _
    (listed_from_turn table.severity.now table.sizes.now table.dense most.result 0 most.result c.first_within-first.result most.result (le_refl _) (le_refl _)
    c.first_within-first.ensures.within c.first_within-first.ensures.inside
    (listed_from_start table.severity.now table.sizes.now table.dense most.result (omega (arith, most.ensures)) table.listing)).0
    most.ensures in record { parts = c.requires; severity_bound = table.weights_fit; lists_range = range; no_gap = table.listing.no_gap }
