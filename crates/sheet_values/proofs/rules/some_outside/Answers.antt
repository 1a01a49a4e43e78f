-- `rules::some_outside` meets its contract: what the chain tells of the range is the definition's test, of each month.
use Prim.Native.Nat.{suc}
use mathlib.Core.Path.{◌≡◌, refl}
use mathlib.Core.Bool.{true, false, not}
use native.Mathlib.Omega.{arith}
use borrow.Author.Rules.{rules}
use borrow.Author.Tests.{tests}
use Rattle.std.proofs.lemmas.Iterator.{cases_from_any, YieldsList-from_range}
use Rattle.doubles.specs.Doubles.{within}
use Rattle.sheet_values.specs.Rules.{chance as Rules·chance}
use Rattle.sheet_values.proofs.RuleLaws.{any_told}
use Rattle.sheet_values.proofs.rules.some_outside.Goals as goal

pub returns : goal.returns
returns c =
    let rule = c.args.rule in
    let months = c.args.months in
    any_told months (λ i. not (within (Rules·chance rule i))) c.any.result
    (cases_from_any _ _ _
    (λ k. not (within (Rules·chance rule (suc k))) ≡ true)
    (λ k. not (within (Rules·chance rule (suc k))) ≡ false)
    c.any.ensures.ran
    (YieldsList-from_range 0 months months refl (omega arith))
    (λ x q k. search (rules, tests))
    (λ x q k. search (rules, tests)))
