use mathlib.Core.Path.{◌≡◌, ◌∙◌, ap}
use Prim.Native.Nat.{ℕ, ◌+◌, ◌-◌, ◌<◌, ◌≤◌}
use native.Mathlib.Omega.{arith}
use lib.ListN.{length, take}
use Rattle.month_rows.proofs.OneMonth.{rows_before, rows_left, own_sizes_le, GoingBack, going_back_turn, going_back_end, going_back_done, going_back_beyond}
use Rattle.month_rows.proofs.rows.all_rows_back.Goals as goal
use Rattle.month_rows.proofs.rows.all_rows_back.Goals.{After-row_back-2}

pub loop-j-preserved : goal.loop-j-preserved
loop-j-preserved c =
    let call = c.row_back in
    let loop = c.loop-j in
    let a = c.args in
    record {
      levels = loop.invariant.levels;
      back =
          going_back_turn _ a.shape.width a.shape.tallied a.shape.income c.requires.rows_in.income_some a.top _ loop.invariant.levels c.requires.top_in.inside a.rows.now a.table.now.severity.now a.chance
          a.round loop.rows loop.j c.loop-j-test.true loop.invariant.back call.new.rows call.auto.rows call.ensures.parts call.ensures.rewritten;
    }

-- the sizes of the last row are some of the table's
pub up_to-own-requires : goal.up_to-own-requires
up_to-own-requires c = omega (arith, c.own_sizes.ensures, own_sizes_le c.args.shape.tallied (length c.args.table.now.severity.now))

done : (c : After-row_back-2) → let a = c.args in GoingBack (a.shape.rows - 1) a.shape.width (a.top + 1 - a.shape.income) (rows_before a.round a.shape.income a.table.now.severity.now a.chance a.shape.tallied (rows_left (a.shape.rows - 1) a.shape.width a.top a.rows.now)) a.rows.now c.row_back-2.new.rows (a.shape.rows - 1 + 1)
done c =
    let call = c.row_back-2 in
    let own = c.up_to-own in
    let loop = c.loop-j in
    let a = c.args in
    let here : loop.j ≡ a.shape.rows - 1 = omega arith in
    going_back_end _ a.shape.width a.shape.tallied a.shape.income c.requires.rows_in.income_some a.top _ loop.invariant.levels c.requires.top_in.inside a.rows.now a.table.now.severity.now a.chance a.round
    loop.rows loop.j here loop.invariant.back own.result.severity.now (own.ensures.severity ∙ ap (λ (n : ℕ). take n a.table.now.severity.now) c.own_sizes.ensures) call.new.rows call.auto.rows call.ensures.parts call.ensures.rewritten

pub returns : goal.returns
returns c =
    let inv = c.loop-j.invariant in
    let a = c.args in
    let back = done (goal.at.returns c).After-row_back-2 in
    let whole : (k : ℕ) → k < a.shape.rows → k ≤ a.shape.rows - 1 = λ k l. omega arith in
    record {
      rewritten = λ k l.
          going_back_done _ a.shape.width a.shape.tallied a.shape.income c.requires.rows_in.income_some a.top _ inv.levels c.requires.top_in.inside a.rows.now a.table.now.severity.now a.chance a.round _ _
          (omega arith) back k (whole k l);
      beyond = λ k l.
          going_back_beyond _ a.shape.width a.shape.tallied a.shape.income c.requires.rows_in.income_some a.top _ inv.levels c.requires.top_in.inside a.rows.now a.table.now.severity.now a.chance a.round _ _
          (omega arith) back k (whole k l);
      parts = back.parts;
    }
