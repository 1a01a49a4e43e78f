use mathlib.Core.Path.{◌≡◌, refl}
use Prim.Native.Nat.{◌+◌, ◌*◌, ◌-◌, ◌≤◌, min}
use native.Mathlib.Omega.{arith}
use lib.ListN.{length, drop}
use lib.Seq.{get_or-drop}
use Rattle.model.specs.Scale.{S}
use Rattle.model.specs.MonthRule.{claim_sum}
use Rattle.model.proofs.Month.{claim_sum_fits, value_fits}
use Rattle.claims.specs.Values.{from_top}
use Rattle.claims.specs.Listing.{ListsRange}
use Rattle.claims.proofs.ListingLaws.{ListedFrom, listed_from_turn}
use Rattle.month_rows.proofs.ValueLaws.{whole_again}
use Rattle.month_rows.proofs.RowLaws.{rewriting_turn, sum_beyond, value_before}
use Rattle.month_rows.proofs.rows.row_back.Goals as goal
use Rattle.month_rows.proofs.rows.row_back.Goals.{After-claim_sum-claims, After-first_within-first}

-- the sizes in the range of a turn, and those of the turns to come
listed : (c : After-first_within-first) → let table = c.args.table.now in let next = c.first_within-first.result in ListsRange table.severity.now (drop next table.sizes.now) table.dense c.min-most.result × ListedFrom table.severity.now table.sizes.now table.dense (min (c.args.top - (c.loop-i.i + 1)) (length table.severity.now)) next
listed c =
    let table = c.args.table.now in
    let loop = c.loop-i in
    listed_from_turn table.severity.now table.sizes.now table.dense _ loop.first c.min-most.result c.first_within-first.result _ (omega arith) (omega arith)
    c.first_within-first.ensures.within c.first_within-first.ensures.inside loop.invariant.listed

-- the claim sum is over the old row, and fits
sum_is : (c : After-claim_sum-claims) → let a = c.args in (c.claim_sum-claims.result.quotient * S + c.claim_sum-claims.result.remainder) ≡ claim_sum a.table.now.severity.now (from_top a.top (drop a.claimed a.rows.now)) (a.top - c.loop-i.i)
sum_is c =
    let a = c.args in
    let loop = c.loop-i in
    sum_beyond a.rows.now a.table.now.severity.now a.quiet a.claimed a.top a.live a.chance a.round c.requires.quiet_le_claimed.0 c.requires.quiet_le_claimed.1
    loop.rows loop.i c.loop-i-test.true (omega arith) loop.invariant.back _ _ refl refl _
    (whole_again _ _ _ c.claim_sum-claims.ensures.quotient c.claim_sum-claims.ensures.remainder).0

sum_fits : (c : After-claim_sum-claims) → (c.claim_sum-claims.result.quotient * S + c.claim_sum-claims.result.remainder) ≤ S * S
sum_fits c =
    rw (sum_is c) (claim_sum_fits c.args.table.now.severity.now _ c.args.table.now.weights_fit (λ s. rw get_or-drop (c.requires.parts_2.each _)) _)

pub month_value-requires : goal.month_value-requires
month_value-requires c =
    (c.requires.chance_fits, c.loop-i.invariant.back.parts.each _, sum_fits (goal.at.month_value-requires c).After-claim_sum-claims, (whole_again _ _ _ c.claim_sum-claims.ensures.quotient c.claim_sum-claims.ensures.remainder).1)

pub loop-i-preserved : goal.loop-i-preserved
loop-i-preserved c =
    let loop = c.loop-i in
    let here = c.loop-i-test.true in
    let claims = c.claim_sum-claims.result in
    let a = c.args in
    let place = (goal.at.loop-i-preserved c).After-claim_sum-claims in
    record {
      back =
          rewriting_turn a.rows.now a.quiet _ loop.rows loop.i c.month_value.result loop.invariant.back (omega arith)
          (value_before a.rows.now a.table.now.severity.now a.quiet a.claimed a.top a.live a.chance a.round c.requires.quiet_le_claimed.0 c.requires.quiet_le_claimed.1
          loop.i _ (claims.quotient * S + claims.remainder) here (loop.invariant.back.so_far.later _ (omega arith)) (sum_is place) _ c.month_value.ensures)
          (rw c.month_value.ensures
          (value_fits a.round a.chance _ claims.quotient claims.remainder c.requires.chance_fits (loop.invariant.back.parts.each _) (sum_fits place)));
      listed = (listed (goal.at.loop-i-preserved c).After-first_within-first).1;
    }
