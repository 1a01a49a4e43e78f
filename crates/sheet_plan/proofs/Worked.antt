-- Sheets worked by hand: the definitions are computed.
use Prim.Native.Nat.{ℕ, ◌*◌, ◌^◌, ◌≤◌}
use mathlib.Core.Path.{◌≡◌, refl, ap, ap₂, ◌∙◌}
use mathlib.Core.List.{List, [], ◌∷◌, ◌++◌}
use native.Mathlib.Omega.{arith}
use lib.Ieee as Ieee
use lib.ListN.{length, drop, replicate}
use Rattle.numbers.specs.Bytes.{big_endian}
use Rattle.model.specs.declared.Head.{Head}
use Rattle.model.specs.Scale.{S}
use Rattle.model.specs.Sums.{one_to, total, any}
use Rattle.model.specs.Levels.{largest_level}
use Rattle.model.specs.Plan.{plan_of, row_length}
use Rattle.model.specs.Refusal.{first, head_checks, tail_survivable}
use Rattle.codec.proofs.Answered.{read_as, head_answered}
use Rattle.model.proofs.MemoryLaws.{filled}
use Rattle.doubles.specs.Doubles.{within, parts}
use Rattle.sheet_values.specs.Sheet.{number_at, double, sheet_rule, sheet_of, sheet_head}
use Rattle.sheet_values.specs.Rules.{repeated, chance, weight, chances, weights, tail, size_part, sheet_row}
use Rattle.sheet_checks.specs.Refusal.{kind_checks, rule_checks, weight_checks, sheet_checks, sheet_refusal}
use Rattle.sheet_plan.specs.Answers.{plan_head, plan_row, sheet_answer, sheet_row_after}
use Rattle.sheet_checks.proofs.CheckLaws.{accepted}

-- A sheet's bytes are read, with 0, as a head and a row, whatever memory is lent that is long enough.
pub record Makes (bytes : List ℕ) (h : Head) (row : List ℕ) : Type 0 where
  pub read : (lent : List ℕ) → row_length h ≤ length lent → sheet_answer bytes (length lent) ≡ read_as 0 h
  pub row_read : (lent : List ℕ) → row_length h ≤ length lent → sheet_row_after bytes lent ≡ row ++ drop (row_length h) lent

module _
    (bytes : List ℕ)
    (h : Head)
    (row : List ℕ)
    (none : first (sheet_checks bytes) ≡ 0)
    (head_is : plan_head bytes ≡ h)
    (row_is : plan_row bytes ≡ row)
  where
    none_here : (lent : List ℕ) → row_length h ≤ length lent → sheet_refusal bytes (row_length (plan_head bytes)) (length lent) ≡ 0
    none_here lent fits = accepted bytes _ (length lent) none (omega (arith, ap row_length head_is, fits))

    makes : Makes bytes h row
    makes =
        record {
          read = λ lent fits. head_answered _ _ (none_here lent fits) ∙ ap (read_as 0) head_is;
          row_read = λ lent fits.
              filled _ _ _ _ (none_here lent fits) ∙ ap₂ (λ l n. l ++ drop n lent) row_is (ap row_length head_is);
        }

-- the bytes of the doubles 0, −0, 1/8, 1/4 and 1/2
abbrev zero_bytes : List ℕ
zero_bytes = replicate 8 0

abbrev minus_zero : List ℕ
minus_zero = 0x80 ∷ replicate 7 0

abbrev eighth : List ℕ
eighth = 0x3f ∷ 0xc0 ∷ replicate 6 0

abbrev quarter : List ℕ
quarter = 0x3f ∷ 0xd0 ∷ replicate 6 0

abbrev half : List ℕ
half = 0x3f ∷ 0xe0 ∷ replicate 6 0

pub record Sheets : Type 0 where
  -- level 1/2, alpha 1/2: two months, an opening of 1, two sizes
  pub level : Makes
      (1 ∷ 2 ∷ 1 ∷ 0 ∷ 2 ∷ half ++ zero_bytes ++ half)
      (record { months = 2; opening = 1; sizes = 2; income = 1 })
      (2 ^ 29 ∷ 2 ^ 29 ∷ 2 ^ 29 ∷ 2 ^ 28 ∷ 2 ^ 28 ∷ [])
  -- a ramp from 1/4 by 1/8, alpha 0: three months, an opening of 0, one size
  pub ramp : Makes
      (2 ∷ 3 ∷ 0 ∷ 0 ∷ 1 ∷ quarter ++ eighth ++ zero_bytes)
      (record { months = 3; opening = 0; sizes = 1; income = 1 })
      (2 ^ 28 ∷ 3 * 2 ^ 27 ∷ 2 ^ 29 ∷ 2 ^ 30 ∷ 0 ∷ [])
  -- "Minus zero counts as zero": as a level's chance and step, and as alpha, so that there is no tail
  pub minus_zeros : Makes
      (1 ∷ 1 ∷ 5 ∷ 0 ∷ 3 ∷ minus_zero ++ minus_zero ++ minus_zero)
      (record { months = 1; opening = 5; sizes = 3; income = 1 })
      (0 ∷ 2 ^ 30 ∷ 0 ∷ 0 ∷ 0 ∷ [])

pub sheets : Sheets
unfolding big_endian number_at double sheet_rule sheet_of sheet_head sheet_row size_part chances weights chance weight repeated tail one_to total any first head_checks kind_checks rule_checks weight_checks sheet_checks tail_survivable plan_of largest_level within parts S Ieee.of_bits Ieee.of_int Ieee.add Ieee.sub Ieee.mul Ieee.lt Ieee.le Ieee.ne
sheets =
    record {
      level = makes _ _ _ refl refl refl;
      ramp = makes _ _ _ refl refl refl;
      minus_zeros = makes _ _ _ refl refl refl;
    }
