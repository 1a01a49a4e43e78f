-- `put_last` meets its contract, by the cases of the last rows.
use mathlib.Core.Path.{ap, ◌∙◌}
use Prim.Native.Nat.{◌*◌}
use lib.ListN.{take, drop}
use Rattle.model.specs.declared.Rounding.TheVariants.{Down, Up}
use Rattle.engine.proofs.AnswerLaws.{some_row, placed_in, ruin_terms, one_row, ruin_in}
use Rattle.engine.proofs.bounds.put_last.Goals as goal

pub last_halves-requires : goal.last_halves-requires
last_halves-requires c = (some_row c.args.last c.args.shape c.args.severity.now c.args.tail c.requires.last_fits, c.requires.halves_len.0)

pub ruin_halves-requires : goal.ruin_halves-requires
ruin_halves-requires c =
    let a = c.args in
    let terms = ruin_terms a.last c.in-Ruin.chance c.in-Ruin.is a.shape a.severity.now a.tail c.requires.last_fits in
    record { halves_len = (c.requires.halves_len.0 ∙ ap (λ n. 2 * n) (one_row a.shape terms.0), c.requires.halves_len.1, c.requires.halves_len.2); ruin_terms = terms.1 }

pub returns-in-Placed : goal.returns-in-Placed
returns-in-Placed c =
    let call = c.last_halves in
    let a = c.args in
    let told = c.in-Placed.is in
    record {
      lower = placed_in a.last told Down a.severity.now a.tail a.shape a.top _ c.requires.halves_len.1 call.ensures.lower;
      upper = placed_in a.last told Up a.severity.now a.tail a.shape a.top _ c.requires.halves_len.1 call.ensures.upper;
      parts = call.ensures.parts;
    }

pub returns-in-Ruin : goal.returns-in-Ruin
returns-in-Ruin c =
    let call = c.ruin_halves in
    let a = c.args in
    let told = c.in-Ruin.is in
    let terms = ruin_terms a.last c.in-Ruin.chance told a.shape a.severity.now a.tail c.requires.last_fits in
    let half = one_row a.shape terms.0 in
    record {
      lower = ruin_in a.last c.in-Ruin.chance told Down a.severity.now a.tail a.shape a.top _ _ terms.0 (ap (λ n. take n call.new.halves) half) call.ensures.lower;
      upper = ruin_in a.last c.in-Ruin.chance told Up a.severity.now a.tail a.shape a.top _ _ terms.0 (ap (λ n. drop n call.new.halves) half) call.ensures.upper;
      parts = call.ensures.parts;
    }
