-- `first_within` meets its contract: past the sizes at the front that lie beyond the bound.
use mathlib.Core.Path.{◌≡◌, sym, ◌∙◌, ap}
use Rattle.std.proofs.Common.{rules, tests, arith, ℕ, ◌+◌, ◌-◌, length, take, drop, ltb, length-drop}
use Rattle.std.specs.List.{prefix_len}
use Rattle.std.proofs.lemmas.Iterator.{YieldsList-from_slice}
use Rattle.std.proofs.lemmas.Iterator.Consumers.{count_from_yields_List}
use Rattle.std.proofs.lemmas.Iterator.Search.{YieldsList-from_take_while}
use Rattle.std.proofs.lemmas.List.Folds.{length-prefix_len}
use lib.Seq.{take_all, drop-drop}
use Rattle.claims.proofs.ListingLaws.{in_range_is}
use Rattle.claims.proofs.sizes.first_within.Goals as goal

pub returns-clause-within : goal.returns-clause-within
returns-clause-within c =
    let a = c.args in
    let rest = drop a.from a.sizes.now in
    let lent : take (length a.sizes.now - a.from) rest ≡ rest = take_all (length a.sizes.now - a.from) rest (omega (arith, length-drop a.from a.sizes.now)) in
    let counted : c.count.result ≡ prefix_len (λ x. ltb a.most x) rest =
    count_from_yields_List c.take_while.result _ c.count.ensures.ran
    (YieldsList-from_take_while _ (λ x. ltb a.most x) (YieldsList-from_slice rest cc) c.take_while.ensures.closure c.take_while.ensures.done (λ x b q k. search (rules, tests)))
    ∙ length-prefix_len (λ x. ltb a.most x) rest in
    ap (λ (k : ℕ). drop (a.from + k) a.sizes.now) counted
    ∙ sym (drop-drop (prefix_len (λ x. ltb a.most x) rest) a.from a.sizes.now)
    ∙ in_range_is a.most rest
