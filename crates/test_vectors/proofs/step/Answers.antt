-- `test_vectors::step` meets its contract.
use mathlib.Core.Path.{◌≡◌, refl, sym}
use mathlib.Core.Bool.{false}
use lib.Dec.{eqb}
use lib.Seq.{length-take-le}
use borrow.Author.Rules.{rules}
use Rattle.test_vectors.specs.declared.record.Kind.{Kind}
use Rattle.test_vectors.specs.declared.record.Kind.TheVariants.{Row, Survive, Both, High, Low, Count, Write, Read, Ruin, Claims, Least, Openings, PlainSurvive, PlainBoth, PlainHigh, PlainLow}
use Rattle.test_vectors.specs.Records.{kind_number}
use Rattle.test_vectors.specs.Rooms.{used_after}
use Rattle.test_vectors.proofs.step.Goals as goal

-- no other kind has a row's number
not_row : (kind : Kind) → (kind ≡ Row → ⊥) → eqb (kind_number kind) 0 ≡ false
not_row Row other = absurd (other refl)
not_row Survive other = refl
not_row Both other = refl
not_row High other = refl
not_row Low other = refl
not_row Count other = refl
not_row Write other = refl
not_row Read other = refl
not_row Ruin other = refl
not_row Claims other = refl
not_row Least other = refl
not_row Openings other = refl
not_row PlainSurvive other = refl
not_row PlainBoth other = refl
not_row PlainHigh other = refl
not_row PlainLow other = refl

pub returns-in-Row : goal.returns-in-Row
unfolding used_after
returns-in-Row c = record { used = rw c.in-Row.is c.read_row.ensures.used; within = search rules }

pub slice_bounds-call-end-in_default : goal.slice_bounds-call-end-in_default
slice_bounds-call-end-in_default c = sym (length-take-le _ _ (search rules))

pub returns-in_default : goal.returns-in_default
unfolding used_after
returns-in_default c = record { used = rw (not_row _ c.in_default.not-Row); within = search rules }
