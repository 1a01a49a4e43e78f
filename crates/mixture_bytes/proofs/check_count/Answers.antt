-- `check_count` meets its contract, test by test.
use mathlib.Core.Path.{◌≡◌, sym, ap, ◌∙◌}
use mathlib.Core.Bool.{Bool, cond}
use lib.ListN.{length}
use Rattle.std.proofs.Common.{rules}
use borrow.Author.Tests.{eq-eqb, lt-ltb, le-ltb}
use Rattle.model.specs.Refusal.{first}
use Rattle.mixture_bytes.specs.Refusal.{count_checks}
use Rattle.mixture_bytes.proofs.PartLaws.{by_outside, by_weights}
use Rattle.mixture_bytes.proofs.check_count.Goals as goal
use Rattle.mixture_bytes.proofs.check_count.Goals.{Else-is_empty}

pub returns-then-is_empty : goal.returns-then-is_empty
unfolding count_checks first
returns-then-is_empty c =
    let none : length c.args.bytes.now ≡ 0 = search (rules, c.if-is_empty.true) in rw (eq-eqb _ 0 none)

-- there is a byte
some : (c : Else-is_empty) → length c.args.bytes.now ≡ 0 → ⊥
some c e = search (rules, c.if-is_empty.false, e)

pub returns-then-count_is_outside : goal.returns-then-count_is_outside
returns-then-count_is_outside c =
    by_outside _ (some (goal.at.returns-then-count_is_outside c).Else-is_empty) _ c.from-count.ensures _ c.count_is_outside.ensures c.if-count_is_outside.true

pub returns-then-bytes-count : goal.returns-then-bytes-count
returns-then-bytes-count c =
    ap (λ (b : Bool). cond b 1 0) (sym (lt-ltb _ _ c.if-bytes-count.true))
    ∙ by_weights _ (some (goal.at.returns-then-bytes-count c).Else-is_empty) _ c.from-count.ensures _ c.count_is_outside.ensures c.if-count_is_outside.false

pub returns : goal.returns
returns c =
    ap (λ (b : Bool). cond b 1 0) (sym (le-ltb _ _ c.if-bytes-count.false))
    ∙ by_weights _ (some (goal.at.returns c).Else-is_empty) _ c.from-count.ensures _ c.count_is_outside.ensures c.if-count_is_outside.false
