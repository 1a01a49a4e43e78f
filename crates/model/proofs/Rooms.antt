-- The rooms that the limits ask for: every plan and question within the limits keeps income to them, and the largest needs all of them.
use Prim.Native.Nat.{◌+◌, ◌*◌, ◌^◌, ◌≤◌, ◌<◌}
use mathlib.Core.Path.{◌≡◌, refl}
use mathlib.Core.Bool.{false}
use native.Mathlib.Nat.{mul-le-mul}
use native.Mathlib.Omega.{arith}
use borrow.Author.Tests.{ltb-false}
use Rattle.model.specs.declared.Head.{Head}
use Rattle.model.specs.declared.Question.{Question}
use Rattle.model.specs.declared.Question.TheVariants.{Survive, Both, High, Low}
use Rattle.model.specs.declared.Ask.{Ask}
use Rattle.model.specs.Limits.{max_claims, level_room, workspace_room}
use Rattle.model.specs.Levels.{largest_level, row_levels}
use Rattle.model.specs.Format.{head_bits, head_bytes, bit_length, byte_length}
use Rattle.model.specs.Refusal.{HeadAccepted, outside, rows_needed, workspace_needed}
use Rattle.model.specs.Figures.{longest_plan, Figures}
use Rattle.model.proofs.Facts.{head_facts}

-- no plan has more bytes than the largest
pub byte_length_fits : (h : Head) → HeadAccepted h → byte_length h ≤ longest_plan
unfolding longest_plan byte_length bit_length head_bits
byte_length_fits h accepted = omega (arith, head_facts h accepted)

-- the longest plan has a head, and its bits are few enough for any machine number
pub longest_between : (head_bytes ≤ longest_plan) × (longest_plan < 2 ^ 16)
unfolding longest_plan byte_length bit_length head_bits
longest_between = omega arith

pub rows_few : (q : Question) → outside q ≡ false → (0 < rows_needed q) × (rows_needed q ≤ max_claims + 1)
unfolding outside rows_needed
rows_few Survive e = omega arith
rows_few (Both k) e = omega (arith, ltb-false max_claims k e)
rows_few (High L) e = omega arith
rows_few (Low L) e = omega arith

-- no question needs more workspace than the largest plan's both with the most claims
pub workspace_fits : (a : Ask) → HeadAccepted a.head → outside a.question ≡ false → workspace_needed a ≤ workspace_room
unfolding workspace_needed
workspace_fits a h e =
    let width : 2 * row_levels a.head.income a.head.opening a.head.months ≤ 2 * level_room = omega (arith, (head_facts _ h).span_fits) in
    mul-le-mul width (rows_few a.question e).1

pub figures : Figures
unfolding longest_plan byte_length bit_length head_bits workspace_needed rows_needed largest_level
figures =
    record {
      count_places = refl;
      plan_bytes = refl;
      plan_fits = byte_length_fits;
      workspace_bytes = refl;
      workspace_fits = workspace_fits;
      room_is = refl;
    }
