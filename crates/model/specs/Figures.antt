-- What the limits come to: the figures that documents 01 and 02 print, and that every plan and question within the limits keeps to them.
use Rattle.std.specs.Prelude.{ℕ, ◌*◌, ◌≤◌, ◌≡◌, false}
use Rattle.model.specs.declared.Head.{Head}
use Rattle.model.specs.declared.Question.TheVariants.{Both}
use Rattle.model.specs.declared.Ask.{Ask}
use Rattle.model.specs.Limits.{max_months, max_opening, max_sizes, max_claims, places, workspace_room}
use Rattle.model.specs.Format.{byte_length}
use Rattle.model.specs.Refusal.{HeadAccepted, outside, workspace_needed}

-- the largest head, whose months and opening leave an income of 1, and the question that asks the most of it
abbrev largest_head : Head
largest_head = record { months = max_months; opening = max_opening; sizes = max_sizes; income = 1 }

abbrev largest_ask : Ask
largest_ask = record { head = largest_head; question = Both max_claims }

-- the bytes of the longest plan
unfoldable pub longest_plan : ℕ
longest_plan = byte_length largest_head

pub record Figures : Type 0 where
  -- "The count row has 121 places."
  pub count_places : places ≡ 121
  -- "the longest plan is then 1,713 bytes"
  pub plan_bytes : longest_plan ≡ 1713
  pub plan_fits : (h : Head) → HeadAccepted h → byte_length h ≤ longest_plan
  -- "the largest desk is 64,200 bytes": each number has 32 bits
  pub workspace_bytes : 4 * workspace_needed largest_ask ≡ 64200
  pub workspace_fits : (a : Ask) → HeadAccepted a.head → outside a.question ≡ false → workspace_needed a ≤ workspace_needed largest_ask
  -- that room is lent to every question of a report
  pub room_is : workspace_needed largest_ask ≡ workspace_room
