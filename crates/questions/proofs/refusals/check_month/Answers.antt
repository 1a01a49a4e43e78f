-- `check_month` meets its contract: a month of 0, or one after the last.
use Prim.Native.Nat.{◌≤◌}
use mathlib.Core.Path.{◌≡◌}
use mathlib.Core.Bool.{cond}
use Rattle.std.proofs.Common.{rules}
use Rattle.questions.proofs.RefusalLaws.{inside_month, beyond_months}
use Rattle.questions.proofs.refusals.check_month.Goals as goal

pub returns-then-not-contains : goal.returns-then-not-contains
returns-then-not-contains c =
    let out : 1 ≤ c.args.month → c.args.month ≤ c.args.head.months → ⊥ = λ a b. search rules in
    rw (beyond_months c.args.head c.args.month out)

pub returns : goal.returns
returns c =
    let inside : (1 ≤ c.args.month) × (c.args.month ≤ c.args.head.months) = search rules in
    rw (inside_month c.args.head c.args.month inside.0 inside.1)
