-- The filled sizes of a table as a question lists them.
use Rattle.std.specs.Prelude.{ℕ, suc, ◌*◌, ◌<◌, ◌≤◌, min, ◌≡◌, cond, List, [], ◌∷◌, ◌++◌, leb, ltb, length, get_or}
use Rattle.model.specs.Plan.{nth}
use Rattle.model.specs.FilledSizes.{filled_sizes}

-- the product that a claim of size x adds, where the value that it leads to is the x-th
abbrev pub sum_term : List ℕ → List ℕ → ℕ → ℕ
sum_term severity after x = nth severity x * nth after x

-- a list without the numbers at its front that are above a bound
unfoldable pub in_range : ℕ → List ℕ → List ℕ
in_range most [] = []
in_range most (x ∷ xs) = cond (leb x most) (x ∷ xs) (in_range most xs)

-- how many sizes are filled from size 1 on before the first empty one
unfoldable pub gapless : List ℕ → ℕ
gapless [] = 0
gapless (f ∷ F) = cond (ltb 0 f) (suc (gapless F)) 0

-- each is one of the sizes 1 to most
pub record SizesIn (most : ℕ) (sizes : List ℕ) : Type 0 where
  pub each : (k : ℕ) → k < length sizes → (0 < get_or sizes k 0) × (get_or sizes k 0 ≤ most)

-- no size of the table from 1 to `dense` is empty
pub record NoGap (severity : List ℕ) (dense : ℕ) : Type 0 where
  pub filled : (i : ℕ) → i < dense → i < length severity → 0 < get_or severity i 0

-- The list and the sizes up to `dense` have the filled sizes of the range 1 to n.
abbrev pub ListsRange : List ℕ → List ℕ → ℕ → ℕ → Type 0
ListsRange severity sizes dense n = sizes ++ filled_sizes severity (min n dense) ≡ filled_sizes severity n

-- What a question lists of its table: for each range, the list without the sizes beyond it has the filled sizes. Of the sizes 1 to `dense` none is empty.
pub record Listing (severity sizes : List ℕ) (dense : ℕ) : Type 0 where
  pub ranges : (n : ℕ) → n ≤ length severity → ListsRange severity (in_range n sizes) dense n
  pub no_gap : NoGap severity dense
