-- `rules::put_row` meets its contract: the chances, and then the part for the sizes.
use Prim.Native.Nat.{◌+◌, ◌-◌}
use mathlib.Core.Path.{◌≡◌, sym, ap, ap₂, ◌∙◌}
use mathlib.Core.List.{◌++◌}
use native.Mathlib.Omega.{arith}
use lib.ListN.{length, take, drop, length-append, length-take, length-drop}
use lib.Seq.{length-take-le}
use Rattle.sheet_values.specs.Sheet.{sheet_head}
use Rattle.sheet_values.specs.Rules.{chances, size_part, sheet_row}
use Rattle.sheet_values.proofs.RuleLaws.{chances_length, rest_stored}
use Rattle.sheet_values.proofs.rules.put_row.Goals as goal
use Rattle.sheet_values.proofs.rules.put_row.Goals.{Start, After-put_chances}

-- the row has a place for each chance, and one more than there are sizes
long : (c : Start) → length c.args.row.now ≡ c.args.sheet.months + c.args.sheet.sizes + 1
unfolding sheet_head
long c = c.requires.row_len

lent_length : (c : Start) → length (take c.args.sheet.months c.args.row.now) ≡ c.args.sheet.months
lent_length c = length-take-le _ _ (omega (arith, long c))

pub slice_bounds-put_chances-end : goal.slice_bounds-put_chances-end
slice_bounds-put_chances-end c = omega (arith, long (goal.at.slice_bounds-put_chances-end c).Start)

pub slice_bounds-put_chances-end-2 : goal.slice_bounds-put_chances-end-2
slice_bounds-put_chances-end-2 c = sym (lent_length (goal.at.slice_bounds-put_chances-end-2 c).Start)

pub put_chances-requires : goal.put_chances-requires
put_chances-requires c =
    let plan = c.requires.makes_plan in
    rw (lent_length (goal.at.put_chances-requires c).Start) (record { row_len_bound = plan.months_fit; row_value = plan.chances_within })

-- once the chances are stored, `lent` and `all` being `lent_length` and `long`
module _
    (c : After-put_chances)
    (lent : length (take c.args.sheet.months c.args.row.now) ≡ c.args.sheet.months)
    (all : length c.args.row.now ≡ c.args.sheet.months + c.args.sheet.sizes + 1)
  where
    stored : c.put_chances.new.row ≡ chances c.args.sheet.rule c.args.sheet.months
    stored = c.put_chances.ensures ∙ ap (chances c.args.sheet.rule) lent

    stored-length : length c.put_chances.new.row ≡ c.args.sheet.months
    stored-length = ap length stored ∙ chances_length _ _

    -- the part that is lent next has one number more than there are sizes
    rest_length :
        let n = c.args.sheet.months in
        let row = c.put_chances.new.row ++ drop n c.args.row.now in
        length (take (length row - n) (drop n row)) ≡ c.args.sheet.sizes + 1
    rest_length = simp (length-take, length-drop, length-append) (omega (arith, stored-length, all))

pub slice_bounds-put_sizes-count : goal.slice_bounds-put_sizes-count
slice_bounds-put_sizes-count c =
    let at = goal.at.slice_bounds-put_sizes-count c in
    simp length-append (omega (arith, stored-length at.After-put_chances (lent_length at.Start) (long at.Start)))

pub slice_bounds-put_sizes-start : goal.slice_bounds-put_sizes-start
slice_bounds-put_sizes-start c =
    let at = goal.at.slice_bounds-put_sizes-start c in
    simp length-append (omega (arith, stored-length at.After-put_chances (lent_length at.Start) (long at.Start)))

pub put_sizes-requires : goal.put_sizes-requires
put_sizes-requires c =
    let at = goal.at.put_sizes-requires c in
    let plan = c.requires.makes_plan in
    let rest = rest_length at.After-put_chances (lent_length at.Start) (long at.Start) in
    (omega (arith, rest), omega (arith, rest, plan.sizes_fit), plan.alpha_within)

pub returns : goal.returns
unfolding sheet_row
returns c =
    let at = goal.at.returns c in
    let sheet = c.args.sheet in
    let lent = lent_length at.Start in
    let all = long at.Start in
    let rest_is : c.put_sizes.new.row ≡ size_part sheet.alpha sheet.sizes =
    c.put_sizes.ensures ∙ ap (size_part sheet.alpha) (omega (arith, rest_length at.After-put_chances lent all)) in
    rest_stored c.put_chances.new.row c.put_sizes.new.row c.args.row.now _ (stored-length at.After-put_chances lent all)
    ∙ ap₂ ◌++◌ (stored at.After-put_chances lent all) rest_is
