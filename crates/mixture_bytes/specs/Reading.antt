-- What reading the bytes of a mixture leaves in the lent row, and what a caller knows of a mixture that was read.
use Rattle.std.specs.Prelude.{ℕ, ◌+◌, ◌≤◌, ◌≡◌, Bool, cond, List, [], ◌∷◌, ◌++◌, map, eqb, length, take, drop}
use Rattle.model.specs.declared.Head.{Head}
use Rattle.model.specs.Limits.{max_plans, row_room}
use Rattle.model.specs.Plan.{row_length}
use Rattle.model.specs.Format.{head_of, row_of, byte_length}
use Rattle.model.specs.Refusal.{HeadAccepted, read_refusal}
use Rattle.mixture_plans.specs.declared.Mixture.{Mixture}
use Rattle.mixture_plans.specs.Rows.{components_of}
use Rattle.mixture_plans.specs.Refusal.{MixtureAccepted, plans_head}
use Rattle.mixture_bytes.specs.Format.{part_of, components_in, head_in}

-- the row after plans were read into it from a place on, one after another, up to the first that is refused
unfoldable pub rows_after : List (List ℕ) → ℕ → List ℕ → List ℕ
rows_after [] at row = row
rows_after (part ∷ parts) at row =
    cond (eqb (read_refusal part row_room) 0)
    (rows_after parts (at + row_length (head_of part)) (take at row ++ row_of part ++ drop (at + row_length (head_of part)) row))
    row

-- what is known of a plan that was read: its head, and how many bytes it has
pub record PartRead (last : Bool) (bytes : List ℕ) (head : Head) (count : ℕ) : Type 0 where
  pub head_is : head ≡ head_of (part_of last bytes)
  pub same_head : head_of (part_of last bytes) ≡ head_of bytes
  pub accepted : HeadAccepted head
  pub count_is : count ≡ byte_length (head_of bytes)
  pub within : count ≤ length bytes

-- how many numbers the rows of plans have
unfoldable pub rows_long : List (List ℕ) → ℕ
rows_long [] = 0
rows_long (part ∷ parts) = row_length (head_of part) + rows_long parts

-- what is known of plans that were read: the first heads are theirs
pub record PlansRead (parts : List (List ℕ)) (heads : List Head) (used : ℕ) : Type 0 where
  pub heads_long : length heads ≡ max_plans
  pub heads_are : take (length parts) heads ≡ map head_of parts
  pub used_is : used ≡ rows_long parts

-- A mixture that was read: its plans' rows are the first part of the lent row.
pub record MixtureRead (bytes : List ℕ) (m : Mixture) (used : ℕ) (row : List ℕ) : Type 0 where
  pub within : used ≤ length row
  pub heads_long : length m.heads ≡ max_plans
  pub weights_long : length m.weights ≡ max_plans
  pub accepted : MixtureAccepted m (take used row)
  pub components : components_of m (take used row) ≡ components_in bytes
  pub head : plans_head m ≡ head_in bytes
