-- The rows of survival, for the functions below the calls.
use Rattle.std.specs.Prelude.{ℕ, List}
use Rattle.model.specs.declared.Rounding.{Rounding}
use Rattle.model.specs.declared.Question.TheVariants.{Survive}
use Rattle.model.specs.MonthRule.{Row, month, values, rule_of, last_of, claims_of}

-- V_0 of survive over these months, by the level at which they begin
abbrev pub survival_row : Rounding → ℕ → List ℕ → List ℕ → Row
survival_row round income severity chances = values (month round income severity) (rule_of Survive) (last_of Survive) chances (claims_of Survive)
