-- `sheet_plan::read` meets its contract. The row is stored to on the last path alone, where nothing is refused.
use Prim.Native.Nat.{ℕ}
use mathlib.Core.Path.{◌≡◌, refl, sym, ap, ap₂, ◌∙◌}
use mathlib.Core.List.{List, ◌++◌}
use native.Mathlib.Omega.{arith}
use lib.ListN.{length, drop}
use lib.Seq.{length-take-le}
use Rattle.model.specs.Plan.{row_length}
use Rattle.model.specs.Refusal.{first}
use Rattle.model.proofs.RefusalNumbers.{not_accepted, handed_on}
use Rattle.codec.specs.Answers.{head_result, no_head}
use Rattle.codec.proofs.Answered.{read_as, head_answered, head_refused}
use Rattle.model.proofs.MemoryLaws.{filled, kept}
use Rattle.sheet_values.specs.Sheet.{sheet_head}
use Rattle.sheet_values.specs.Rules.{sheet_row}
use Rattle.sheet_checks.specs.Refusal.{sheet_checks, sheet_refusal}
use Rattle.sheet_plan.specs.Answers.{plan_head, sheet_answer, sheet_row_after}
use Rattle.sheet_checks.proofs.CheckLaws.{SheetFacts, sheet_facts, refused_early, refused_short, accepted}
use Rattle.sheet_plan.proofs.read.Goals as goal
use Rattle.sheet_plan.proofs.read.Goals.{After-head_of-head, After-row_length-count, In_ok-check}

-- what a refusal with a number answers and leaves
refused :
    (bytes row : List ℕ) (n : ℕ) → sheet_refusal bytes (row_length (plan_head bytes)) (length row) ≡ n → (n ≡ 0 → ⊥)
    → (read_as n no_head ≡ sheet_answer bytes (length row)) × (row ≡ sheet_row_after bytes row)
refused bytes row n is some =
    let some-here : sheet_refusal bytes (row_length (plan_head bytes)) (length row) ≡ 0 → ⊥ = λ z. some (sym is ∙ z) in
    (ap (λ k. read_as k no_head) (sym is) ∙ sym (head_refused _ _ some-here), sym (kept _ _ _ _ some-here))

pub returns-in_err-check : goal.returns-in_err-check
returns-in_err-check c =
    let bytes = c.args.bytes.now in
    let row = c.args.row.now in
    let number = c.in_err-check.ensures in
    let is = refused_early bytes (row_length (plan_head bytes)) (length row) (not_accepted _ _ number) in
    let both = refused bytes row _ (is ∙ sym number) (not_accepted _ _ refl) in
    record { answer = ap head_result (handed_on _ _ c.from_residual.ensures.1) ∙ both.0; memory = both.1 }

none : (c : In_ok-check) → first (sheet_checks c.args.bytes.now) ≡ 0
none c = sym c.in_ok-check.ensures

known : (c : In_ok-check) → SheetFacts c.args.bytes.now
known c = sheet_facts _ (none c)

pub sheet_of-sheet-requires : goal.sheet_of-sheet-requires
sheet_of-sheet-requires c = (known (goal.at.sheet_of-sheet-requires c).In_ok-check).length_is

head_is : (c : After-head_of-head) → c.head_of-head.result ≡ plan_head c.args.bytes.now
head_is c = c.head_of-head.ensures ∙ ap sheet_head c.sheet_of-sheet.ensures

pub row_length-count-requires : goal.row_length-count-requires
row_length-count-requires c =
    let at = goal.at.row_length-count-requires c in
    rw (head_is at.After-head_of-head) (known at.In_ok-check).head_ok

-- `head` is `head_is`
count_is :
    (c : After-row_length-count) → c.head_of-head.result ≡ plan_head c.args.bytes.now
    → c.row_length-count.result ≡ row_length (plan_head c.args.bytes.now)
count_is c head = c.row_length-count.ensures ∙ ap row_length head

pub returns-then-row-count : goal.returns-then-row-count
returns-then-row-count c =
    let at = goal.at.returns-then-row-count c in
    let bytes = c.args.bytes.now in
    let row = c.args.row.now in
    let count = count_is at.After-row_length-count (head_is at.After-head_of-head) in
    let is = refused_short bytes (row_length (plan_head bytes)) (length row) (none at.In_ok-check) (omega (arith, count, c.if-row-count.true)) in
    let both = refused bytes row 11 is (λ z. omega (arith, z)) in
    record { answer = both.0; memory = both.1 }

pub slice_bounds-put_row-end-2 : goal.slice_bounds-put_row-end-2
slice_bounds-put_row-end-2 c = sym (length-take-le _ _ c.if-row-count.false)

pub put_row-requires : goal.put_row-requires
put_row-requires c =
    let at = goal.at.put_row-requires c in
    record {
      makes_plan = rw c.sheet_of-sheet.ensures (known at.In_ok-check).makes_plan;
      row_len = length-take-le _ _ c.if-row-count.false ∙ c.row_length-count.ensures ∙ ap row_length c.head_of-head.ensures;
    }

pub returns : goal.returns
returns c =
    let at = goal.at.returns c in
    let bytes = c.args.bytes.now in
    let row = c.args.row.now in
    let head = head_is at.After-head_of-head in
    let count = count_is at.After-row_length-count head in
    let none_here = accepted bytes (row_length (plan_head bytes)) (length row) (none at.In_ok-check) (omega (arith, count, c.if-row-count.false)) in
    let stored = c.put_row.ensures ∙ ap sheet_row c.sheet_of-sheet.ensures in
    record {
      answer = ap (read_as 0) head ∙ sym (head_answered _ _ none_here);
      memory = ap₂ (λ l n. l ++ drop n row) stored count ∙ sym (filled _ _ _ _ none_here);
    }
