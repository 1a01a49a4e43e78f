-- Rule sheets (document 02, Job 4): "A sheet is 29 bytes, most significant byte first: kind, months, opening (one byte each), sizes (two bytes), then
-- first, step and alpha as IEEE 754 binary64." Doubles are those of the library's own account of IEEE 754, in which every NaN is one.
use Rattle.std.specs.Prelude.{ℕ, ◌≡◌, cond, List, eqb, Float, take, drop, Result, MatchResult}
use Rattle.std.specs.Float.{binary64}
use Rattle.std.specs.Float.Ieee.{of_bits}
use Rattle.numbers.specs.Bytes.{big_endian}
use Rattle.model.specs.declared.Head.{Head}
use Rattle.sheet_values.specs.declared.ChanceRule.{ChanceRule}
use Rattle.sheet_values.specs.declared.ChanceRule.TheVariants.{Level, Ramp}
use Rattle.sheet_values.specs.declared.Kind.{Kind}
use Rattle.sheet_values.specs.declared.Kind.TheVariants.{Level as Kind·Level, Ramp as Kind·Ramp}
use Rattle.sheet_values.specs.declared.UnknownKind.{UnknownKind}
use Rattle.sheet_values.specs.declared.RuleSheet.{RuleSheet}

abbrev pub sheet_length : ℕ
sheet_length = 29

-- the number of so many bytes from a place on
unfoldable pub number_at : ℕ → ℕ → List ℕ → ℕ
number_at at count bytes = big_endian (take count (drop at bytes))

unfoldable pub double : ℕ → List ℕ → Float
double at bytes = of_bits binary64 (number_at at 8 bytes)

abbrev pub kind_of : List ℕ → ℕ
kind_of bytes = number_at 0 1 bytes

abbrev pub first_of : List ℕ → Float
first_of bytes = double 5 bytes

abbrev pub step_of : List ℕ → Float
step_of bytes = double 13 bytes

abbrev pub alpha_of : List ℕ → Float
alpha_of bytes = double 21 bytes

-- the numbers of the kinds: the one that a number names, or none
abbrev pub kind_number : Kind → ℕ
kind_number Kind·Level = 1
kind_number Kind·Ramp = 2

abbrev pub IsKind : ℕ → Result Kind UnknownKind → Type 0
IsKind number r = MatchResult r (λ kind. kind_number kind ≡ number) (λ _. (number ≡ 1 → ⊥) × (number ≡ 2 → ⊥))

-- "A claim-chance rule is either level, with its chance, or a ramp, with its first chance and its monthly step. Kind 1 is level, 2 is ramp."
unfoldable pub sheet_rule : List ℕ → ChanceRule
sheet_rule bytes = cond (eqb (kind_of bytes) 1) (Level (first_of bytes)) (Ramp (first_of bytes) (step_of bytes))

-- "A rule sheet is one record with the rule, the opening and the alpha." It has the sheet's months and sizes too.
unfoldable pub sheet_of : List ℕ → RuleSheet
sheet_of bytes =
    record {
      rule = sheet_rule bytes;
      months = number_at 1 1 bytes;
      opening = number_at 2 1 bytes;
      sizes = number_at 3 2 bytes;
      alpha = alpha_of bytes;
    }

-- the head of the plan that a sheet makes: "Sheets make plans with c = 1."
unfoldable pub sheet_head : RuleSheet → Head
sheet_head s = record { months = s.months; opening = s.opening; sizes = s.sizes; income = 1 }
