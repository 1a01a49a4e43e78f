use native.Mathlib.Omega.{arith}
use mathlib.Core.Path.{◌≡◌, ◌∙◌, ap}
use Prim.Native.Nat.{ℕ, ◌+◌, ◌*◌, ◌≤◌}
use native.Mathlib.Nat.{zero-add}
use lib.ListN.{set}
use Rattle.model.specs.Scale.{S, quotient}
use Rattle.month_rows.proofs.RowLaws.{Rewriting, rewriting_turn}
use Rattle.ruin_rows.proofs.RuinLaws.{product_fits, ruin_places, ruin_value, value_fits}
use Rattle.ruin_rows.proofs.ruin_row.Goals as goal
use Rattle.ruin_rows.proofs.ruin_row.Goals.{After-divide, After-from}

-- the product that a turn divides
fits : (c : After-from) → c.from.result * c.ruin_weight-weight.result ≤ S * S
fits c =
    let a = c.args in
    let weight = c.ruin_weight-weight in
    let same : c.from.result * weight.result ≡ a.chance * weight.result = ap (λ (p : ℕ). p * weight.result) c.from.ensures in
    omega (arith, same, product_fits a.severity.now a.tail a.chance _ weight.result c.requires.ruin_terms weight.ensures)

pub overflow_mul-from : goal.overflow_mul-from
unfolding S
overflow_mul-from c = omega (arith, fits (goal.at.overflow_mul-from c).After-from)

pub divide-requires : goal.divide-requires
divide-requires c = fits (goal.at.divide-requires c).After-from

-- one place more is new
turned : (c : After-divide) → let a = c.args in Rewriting a.row.now 0 (ruin_places a.round a.income a.severity.now a.tail a.chance a.top) (set c.loop-i.row c.loop-i.i c.divide.result) (c.loop-i.i + 1)
turned c =
    let weight = c.ruin_weight-weight in
    let loop = c.loop-i in
    let a = c.args in
    let value =
    ruin_value a.round a.income a.severity.now a.tail a.chance a.top loop.i weight.result c.divide.result weight.ensures
    (c.divide.ensures ∙ ap (λ (p : ℕ). quotient a.round (p * weight.result) S) c.from.ensures) in
    rw zero-add at
    (rewriting_turn a.row.now 0 _ loop.row loop.i c.divide.result loop.invariant (omega arith) value
    (value_fits a.round a.income a.severity.now a.tail a.chance a.top loop.i c.divide.result c.requires.ruin_terms value))

pub loop-i-preserved : goal.loop-i-preserved
loop-i-preserved c = turned (goal.at.loop-i-preserved c).After-divide

pub returns-2 : goal.returns-2
returns-2 c =
    let here = turned (goal.at.returns-2 c).After-divide in
    let all : c.loop-i.i + 1 ≡ c.args.top + 1 = omega arith in
    record { rewritten = rw all at here.so_far; parts = here.parts }
