-- `report_groups::line_range` meets its contract, by the question's cases. Assumes nothing.
use native.Mathlib.Omega.{arith}
use Rattle.model.proofs.Facts.{head_facts}
use Rattle.report_groups.specs.Groups.{line_range}
use Rattle.report_groups.proofs.line_range.Goals as goal

pub largest_level-requires : goal.largest_level-requires
largest_level-requires c = omega (arith, (head_facts _ c.requires).span_fits)

pub overflow_add-result-in-Low : goal.overflow_add-result-in-Low
overflow_add-result-in-Low c = omega (arith, head_facts _ c.requires)

pub returns-in-Survive : goal.returns-in-Survive
unfolding line_range
returns-in-Survive c = rw c.in-Survive.is

pub returns-in-Both : goal.returns-in-Both
unfolding line_range
returns-in-Both c = rw (c.in-Both.is, c.min.ensures)

pub returns-in-High : goal.returns-in-High
unfolding line_range
returns-in-High c = rw (c.in-High.is, c.largest_level.ensures)

pub returns-in-Low : goal.returns-in-Low
unfolding line_range
returns-in-Low c = rw c.in-Low.is
