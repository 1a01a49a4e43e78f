-- `sheet_plan::write_plan` meets its contract: the plan that was read is accepted, so its bytes are written where there is room for them.
use Prim.Native.Nat.{ℕ, ◌≤◌}
use mathlib.Core.Path.{◌≡◌, refl, sym, ap, ap₂, ◌∙◌}
use mathlib.Core.List.{List, ◌++◌}
use native.Mathlib.Omega.{arith}
use lib.ListN.{length, take, drop, length-append}
use lib.Seq.{length-take-le, take_at}
use Rattle.std.specs.Prelude.{Result, Ok, Err}
use Rattle.std.specs.Result.{IfOk}
use Rattle.model.specs.declared.refusal.Refusal.{Refusal}
use Rattle.model.specs.Limits.{row_room}
use Rattle.model.specs.Plan.{row_length}
use Rattle.model.specs.Format.{byte_length, bytes_of}
use Rattle.model.specs.Refusal.{first}
use Rattle.model.proofs.RefusalNumbers.{not_accepted, handed_on}
use Rattle.codec.specs.Answers.{ReadAnswer, WriteAnswer, length_answer, length_result, write_answer, bytes_after}
use Rattle.model.specs.Memory.{filled_after}
use Rattle.codec.proofs.Answered.{written_as, head_answered, head_number, length_refused}
use Rattle.model.proofs.MemoryLaws.{filled, kept}
use Rattle.sheet_values.specs.Sheet.{sheet_of}
use Rattle.sheet_checks.specs.Refusal.{sheet_checks, sheet_refusal}
use Rattle.sheet_plan.specs.Answers.{plan_head, plan_row, sheet_answer, plan_answer}
use Rattle.sheet_values.proofs.RuleLaws.{row_is}
use Rattle.sheet_checks.proofs.CheckLaws.{sheet_facts, refused_early}
use Rattle.sheet_plan.proofs.Theorems.{read_number, write_number, plan_fits}
use Rattle.sheet_plan.proofs.write_plan.Goals as goal
use Rattle.sheet_plan.proofs.write_plan.Goals.{After-row_length-count, In_ok-head}

-- the number that reading gives, the row being long enough for every plan
given :
    (bytes row : List ℕ) (a : ReadAnswer) → row_room ≡ length row → a ≡ sheet_answer bytes (length row) →
    (a.refusal ≡ sheet_refusal bytes (row_length (plan_head bytes)) (length row)) × (a.refusal ≡ first (sheet_checks bytes))
given bytes row a size answered =
    let number = ap (λ (r : ReadAnswer). r.refusal) answered ∙ head_number _ _ in
    (number, number ∙ ap (sheet_refusal bytes (row_length (plan_head bytes))) (sym size) ∙ read_number bytes)

-- what is written lies within what is lent
inside :
    (bytes : List ℕ) (room : ℕ) (left : List ℕ) (r : Result ℕ Refusal) → length_result r ≡ plan_answer bytes room → room ≡ length left
    → IfOk r (λ n. (n ≤ length left) × (n ≡ length (take n left)))
inside bytes room left (Ok n) answered same =
    let fits : n ≤ length left = omega (arith, ap (λ (a : WriteAnswer). a.length) answered, plan_fits bytes room, same) in
    (fits, sym (length-take-le _ _ fits))
inside bytes room left (Err _) answered same = tt

pub returns-in_err-head : goal.returns-in_err-head
returns-in_err-head c =
    let bytes = c.args.bytes.now in
    let blank = c.blank-row in
    let needed = byte_length (plan_head bytes) in
    let number = (given bytes blank.result _ blank.ensures.sized c.in_err-head.ensures.answer).1 in
    let some : first (sheet_checks bytes) ≡ 0 → ⊥ = not_accepted _ _ number in
    let is = refused_early bytes needed (length c.args.plan.now) some in
    let some-here : sheet_refusal bytes needed (length c.args.plan.now) ≡ 0 → ⊥ = λ z. some (sym is ∙ z) in
    let answer =
    ap length_result (handed_on _ _ c.from_residual.ensures.1) ∙ ap (λ n. written_as n 0) (number ∙ sym is) ∙ sym (length_refused _ _ some-here) in
    record { answer = answer; memory = sym (kept _ _ _ _ some-here); within = inside bytes _ _ _ answer refl }

-- nothing was refused, neither by the sheet's checks nor for want of room
none : (c : In_ok-head) → first (sheet_checks c.args.bytes.now) ≡ 0
none c = sym (given _ _ _ c.blank-row.ensures.sized c.in_ok-head.ensures.answer).1

none_read : (c : In_ok-head) → sheet_refusal c.args.bytes.now (row_length (plan_head c.args.bytes.now)) (length c.blank-row.result) ≡ 0
none_read c = sym (given _ _ _ c.blank-row.ensures.sized c.in_ok-head.ensures.answer).0

head_is : (c : In_ok-head) → c.in_ok-head.head ≡ plan_head c.args.bytes.now
head_is c = ap (λ (a : ReadAnswer). a.head) (c.in_ok-head.ensures.answer ∙ head_answered _ _ (none_read c))

pub row_length-count-requires : goal.row_length-count-requires
row_length-count-requires c =
    let at = goal.at.row_length-count-requires c in
    rw (head_is at.In_ok-head) (sheet_facts _ (none at.In_ok-head)).head_ok

-- what is known of the row once it is counted: it was read, and its first numbers are the plan's
module _
    (c : After-row_length-count)
    (read_ok : sheet_refusal c.args.bytes.now (row_length (plan_head c.args.bytes.now)) (length c.blank-row.result) ≡ 0)
    (head : c.in_ok-head.head ≡ plan_head c.args.bytes.now)
  where
    row_read : c.read.new.row ≡ plan_row c.args.bytes.now ++ drop (row_length (plan_head c.args.bytes.now)) c.blank-row.result
    row_read = c.in_ok-head.ensures.memory ∙ filled _ _ _ _ read_ok

    plan-length : length (plan_row c.args.bytes.now) ≡ c.row_length-count.result
    plan-length = row_is (sheet_of c.args.bytes.now) ∙ sym (c.row_length-count.ensures ∙ ap row_length head)

    row_fits : c.row_length-count.result ≤ length c.read.new.row
    row_fits = omega (arith, plan-length, simp length-append at (ap length row_read))

    -- what is lent is the plan's row
    lent_is : take c.row_length-count.result c.read.new.row ≡ plan_row c.args.bytes.now
    lent_is = ap (take c.row_length-count.result) row_read ∙ take_at (plan_row c.args.bytes.now) _ _ plan-length

pub slice_bounds-row-end : goal.slice_bounds-row-end
slice_bounds-row-end c =
    let at = goal.at.slice_bounds-row-end c in
    row_fits at.After-row_length-count (none_read at.In_ok-head) (head_is at.In_ok-head)

pub slice_bounds-write-end : goal.slice_bounds-write-end
slice_bounds-write-end c =
    let at = goal.at.slice_bounds-write-end c in
    sym (length-take-le _ _ (row_fits at.After-row_length-count (none_read at.In_ok-head) (head_is at.In_ok-head)))

pub returns : goal.returns
returns c =
    let at = goal.at.returns c in
    let bytes = c.args.bytes.now in
    let lent = c.args.plan.now in
    let head = head_is at.In_ok-head in
    let row = lent_is at.After-row_length-count (none_read at.In_ok-head) head in
    let number = write_number bytes (none at.In_ok-head) (length lent) in
    let answer =
    c.write.ensures.answer
    ∙ ap₂ (λ h r. write_answer h r (length lent)) head row
    ∙ ap (λ n. length_answer n (byte_length (plan_head bytes))) number in
    let memory =
    c.write.ensures.memory
    ∙ ap₂ (λ h r. bytes_after h r lent) head row
    ∙ ap (λ n. filled_after n (byte_length (plan_head bytes)) (bytes_of (plan_head bytes) (plan_row bytes)) lent) number in
    record { answer = answer; memory = memory; within = inside bytes _ _ _ answer (sym c.write.auto.bytes) }
