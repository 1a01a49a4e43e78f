-- `listed_search` meets its contract: the lower row decides, and the upper row is worked for the opening found (`SearchLaws`).
use Prim.Native.Nat.{ℕ, ◌+◌, ◌*◌, ◌<◌}
use mathlib.Core.Path.{◌≡◌, refl, sym, ◌∙◌}
use mathlib.Core.List.{◌++◌}
use Rattle.std.specs.Prelude.{None}
use native.Mathlib.Omega.{arith}
use lib.ListN.{length, drop}
use lib.Seq.{length-take-le, length_front}
use Rattle.model.specs.Levels.{largest_level}
use Rattle.model.proofs.LevelLaws.{level_from}
use Rattle.target_rows.specs.Rows.{found_of}
use Rattle.target_rows.proofs.WalkLaws.{found_opening, found_lower}
use Rattle.opening_search.specs.Answers.{refused}
use Rattle.opening_search.proofs.SearchLaws.{none_found, one_found, zero_still, second_count, zero_again}
use Rattle.opening_search.proofs.search.listed_search.Goals as goal
use Rattle.opening_search.proofs.search.listed_search.Goals.{In-Some, Start}

-- the halves of the workspace, from the start of the function
record Halves (half levels room : ℕ) : Type 0 where
  levels-inside : levels < half
  whole : room ≡ 2 * half

halves : (c : Start) → let a = c.args in Halves (c.args.opening + c.args.income * length c.args.chances.now + 1) (largest_level a.income a.opening (length a.chances.now)) (length a.workspace.now)
unfolding largest_level
halves c = record { levels-inside = omega arith; whole = omega (arith, c.requires.income_nonzero.1) }

pub overflow_mul-half : goal.overflow_mul-half
overflow_mul-half c = omega (arith, (halves (goal.at.overflow_mul-half c).Start).whole)

pub overflow_add-half : goal.overflow_add-half
overflow_add-half c = omega (arith, (halves (goal.at.overflow_add-half c).Start).whole)

pub overflow_add-half-2 : goal.overflow_add-half-2
overflow_add-half-2 c = omega (arith, (halves (goal.at.overflow_add-half-2 c).Start).whole)

pub slice_bounds-least_lower-end : goal.slice_bounds-least_lower-end
slice_bounds-least_lower-end c = omega (arith, (halves (goal.at.slice_bounds-least_lower-end c).Start).whole, c.fill.auto.self)

pub slice_bounds-least_lower-end-2 : goal.slice_bounds-least_lower-end-2
slice_bounds-least_lower-end-2 c =
    sym (length-take-le (c.args.opening + c.args.income * length c.args.chances.now + 1) c.fill.new.self (omega (arith, (halves (goal.at.slice_bounds-least_lower-end-2 c).Start).whole, c.fill.auto.self)))

pub least_lower-requires : goal.least_lower-requires
least_lower-requires c =
    let size = length-take-le (c.args.opening + c.args.income * length c.args.chances.now + 1) c.fill.new.self (omega (arith, (halves (goal.at.least_lower-requires c).Start).whole, c.fill.auto.self)) in record { walk = record { chances_fit = c.requires.chances_fit; earns = c.requires.income_nonzero.0; inside = omega (arith, (halves (goal.at.least_lower-requires c).Start).levels-inside, size) }; target_nonzero = c.requires.target_nonzero }

pub returns-in_default : goal.returns-in_default
unfolding refused
returns-in_default c =
    let a = c.args in
    let none = found_of a.opening None in record {
      answered = none_found a.income a.table.now.severity.now a.opening a.chances.now a.target none.opening
          (found_opening a.income a.table.now.severity.now a.opening a.chances.now a.target none c.in_default.ensures.found) (omega arith) _ refl;
      cleared = zero_still (length a.workspace.now) (c.args.opening + c.args.income * length c.args.chances.now + 1) (omega (arith, (halves (goal.at.returns-in_default c).Start).whole)) c.fill.new.self c.least_lower.new.row (c.fill.ensures.after (λ y e. e)) c.least_lower.ensures.cleared;
    }

-- the workspace between the two halves' work is as long as it was
still : (c : In-Some) → length (c.least_lower.new.row ++ drop (c.args.opening + c.args.income * length c.args.chances.now + 1) c.fill.new.self) ≡ length c.args.workspace.now
still c = length_front c.fill.new.self c.least_lower.new.row (c.args.opening + c.args.income * length c.args.chances.now + 1) c.least_lower.auto.row ∙ c.fill.auto.self

pub offset_bounds-workspace-half : goal.offset_bounds-workspace-half
offset_bounds-workspace-half c = omega (arith, still (goal.at.offset_bounds-workspace-half c).In-Some, (halves (goal.at.offset_bounds-workspace-half c).Start).whole)

pub slice_bounds-upper_at-count : goal.slice_bounds-upper_at-count
slice_bounds-upper_at-count c = omega (arith, still (goal.at.slice_bounds-upper_at-count c).In-Some, (halves (goal.at.slice_bounds-upper_at-count c).Start).whole)

pub slice_bounds-upper_at-start : goal.slice_bounds-upper_at-start
slice_bounds-upper_at-start c = omega (arith, still (goal.at.slice_bounds-upper_at-start c).In-Some, (halves (goal.at.slice_bounds-upper_at-start c).Start).whole)

pub upper_at-upper-requires : goal.upper_at-upper-requires
upper_at-upper-requires c =
    let a = c.args in
    let found = c.in-Some.found in
    let size = second_count (length a.workspace.now) (c.args.opening + c.args.income * length c.args.chances.now + 1) (omega (arith, (halves (goal.at.upper_at-upper-requires c).Start).whole)) c.fill.new.self c.least_lower.new.row (c.fill.ensures.after (λ y e. e)) c.least_lower.ensures.cleared
    (halves (goal.at.upper_at-upper-requires c).Start).whole c.least_lower.auto.row in
    record {
      chances_fit = c.requires.chances_fit;
      earns = c.requires.income_nonzero.0;
      inside = omega (arith, (halves (goal.at.upper_at-upper-requires c).Start).levels-inside, size, level_from a.income found.opening a.opening (length a.chances.now) c.in-Some.ensures.inside);
    }

pub returns : goal.returns
returns c =
    let a = c.args in
    let found = c.in-Some.found in
    let upper = c.upper_at-upper in record {
      answered = one_found a.income a.table.now.severity.now a.opening a.chances.now a.target found.opening
          (found_opening a.income a.table.now.severity.now a.opening a.chances.now a.target found c.in-Some.ensures.found) c.in-Some.ensures.inside found.lower upper.result
          (found_lower a.income a.table.now.severity.now a.opening a.chances.now a.target found c.in-Some.ensures.found c.in-Some.ensures.inside) upper.ensures.upper;
      cleared = zero_again (length a.workspace.now) (c.args.opening + c.args.income * length c.args.chances.now + 1) (omega (arith, (halves (goal.at.returns c).Start).whole)) c.fill.new.self c.least_lower.new.row (c.fill.ensures.after (λ y e. e)) c.least_lower.ensures.cleared
          (halves (goal.at.returns c).Start).whole c.least_lower.auto.row upper.new.row upper.ensures.cleared;
    }
