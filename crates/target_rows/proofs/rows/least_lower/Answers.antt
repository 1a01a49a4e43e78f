-- `least_lower` meets its contract: given up, no opening reaches the target (`none_reached`); otherwise the least is found in the row of the openings.
use Rattle.std.specs.Prelude.{Option, Some, None, is_some, true, false}
use Prim.Native.Nat.{ℕ, ◌<◌}
use mathlib.Core.Path.{◌≡◌, refl, sym, ap, ◌∙◌}
use native.Mathlib.Nat.{le_refl}
use native.Mathlib.Omega.{arith}
use lib.ListN.{length, replicate}
use Rattle.model.proofs.LevelLaws.{level_from}
use Rattle.target_rows.specs.Rows.{Walk, given_month}
use Rattle.target_rows.proofs.WalkLaws.{none_reached, found_none, found_some, openings_are, some_opening, least_is_same}
use Rattle.target_rows.proofs.rows.least_lower.Goals as goal
use Rattle.target_rows.proofs.rows.least_lower.Goals.{Else-is_some, Start}

walk : (c : Start) → Walk (length c.args.row.now) c.args.income c.args.opening c.args.chances.now
walk c = c.requires.walk

-- the opening lies within the row
inside : (c : Start) → c.args.opening < length c.args.row.now
inside c = let a = c.args in omega (arith, (let walk : Walk (length c.args.row.now) c.args.income c.args.opening c.args.chances.now = c.requires.walk in walk).inside, level_from a.income a.opening a.opening (length a.chances.now) (le_refl a.opening))

given_some : (r : Option ℕ) → is_some r ≡ true → 0 < given_month r
given_some None e = cc
given_some (Some t) e = omega arith

given_none : (r : Option ℕ) → is_some r ≡ false → given_month r ≡ 0
given_none None e = refl
given_none (Some t) e = cc

pub returns-then-is_some : goal.returns-then-is_some
returns-then-is_some c =
    let a = c.args in
    let walk_back = c.lower_back-given_up in
    let some : 0 < given_month walk_back.result = given_some walk_back.result (sym c.is_some.ensures ∙ c.if-is_some.true) in record {
      found = found_none a.income a.table.now.severity.now a.opening a.chances.now a.target _ refl
          (none_reached a.income a.table.now.severity.now a.opening a.chances.now a.target (given_month walk_back.result) a.table.now.weights_fit (walk (goal.at.returns-then-is_some c).Start).chances_fit c.requires.target_nonzero.0 some
          walk_back.ensures.given);
      inside = tt;
      cleared = c.fill.ensures.after (λ y e. e) ∙ ap (λ n. replicate n 0) walk_back.auto.row;
    }

-- where the walk was not given up
ended : (c : Else-is_some) → given_month c.lower_back-given_up.result ≡ 0
ended c = given_none c.lower_back-given_up.result (sym c.is_some.ensures ∙ c.if-is_some.false)

pub found_in-found-requires : goal.found_in-found-requires
found_in-found-requires c =
    let a = c.args in
    let walk_back = c.lower_back-given_up in record {
      opening_in_bounds = omega (arith, inside (goal.at.found_in-found-requires c).Start, walk_back.auto.row);
      reaches = some_opening a.income a.table.now.severity.now a.opening a.chances.now a.target (length a.row.now) (given_month walk_back.result) walk_back.new.row (ended (goal.at.found_in-found-requires c).Else-is_some) (walk (goal.at.found_in-found-requires c).Start).inside
          walk_back.ensures.given walk_back.ensures.back;
    }

pub returns : goal.returns
returns c =
    let a = c.args in
    let walk_back = c.lower_back-given_up in
    let month = given_month walk_back.result in
    let least = c.found_in-found in record {
      found = found_some a.income a.table.now.severity.now a.opening a.chances.now a.target least.result
          (least.ensures.found
          ∙ least_is_same a.income a.table.now.severity.now a.opening a.chances.now a.target (length a.row.now) month walk_back.new.row (ended (goal.at.returns c).Else-is_some) (walk (goal.at.returns c).Start).inside
          walk_back.ensures.given walk_back.ensures.back)
          (least.ensures.lower
          ∙ openings_are a.income a.table.now.severity.now a.opening a.chances.now a.target (length a.row.now) month walk_back.new.row (ended (goal.at.returns c).Else-is_some) (walk (goal.at.returns c).Start).inside
          walk_back.ensures.given walk_back.ensures.back least.result.opening least.ensures.inside)
          least.ensures.inside;
      inside = least.ensures.inside;
      cleared = c.fill-2.ensures.after (λ y e. e) ∙ ap (λ n. replicate n 0) walk_back.auto.row;
    }
