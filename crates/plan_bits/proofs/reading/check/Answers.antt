-- `plan_bits::reading::check` meets its contract: `RefusalLaws` puts its tests together as the table does.
use Prim.Native.Nat.{ℕ, ◌+◌, ◌*◌, ◌-◌, ◌^◌, ◌<◌, ◌≤◌}
use mathlib.Core.Path.{◌≡◌, refl, sym, ap, ap₂, ◌∙◌}
use mathlib.Core.Bool.{false, not, cond}
use native.Mathlib.Nat.{le_of_eq}
use native.Mathlib.Omega.{arith}
use borrow.Author.Tests.{ne_eqb, lt-ltb, le-ltb}
use lib.Dec.{ltb, eqb}
use lib.ListN.{length, drop, length-drop}
use lib.Seq.{take_all}
use Rattle.model.specs.Sums.{any}
use Rattle.model.specs.Plan.{row_length}
use Rattle.model.specs.Format.{number_width, head_bytes, number, head_bits, bits_of, fields, bit_length, byte_length, head_of, row_of, fill_of}
use Rattle.model.specs.Refusal.{first, head_checks, HeadAccepted, plan_refusal, read_refusal}
use Rattle.model.proofs.RefusalNumbers.{not_accepted, passed_on}
use Rattle.model.proofs.Facts.{head_facts}
use Rattle.model.proofs.Rooms.{byte_length_fits, longest_between}
use Rattle.plan_bits.proofs.PlanBits.{length_bits_of}
use Rattle.plan_bits.proofs.RefusalLaws.{fill_test, read_short, read_head, read_length, read_padding, read_rest}
use Rattle.plan_bits.proofs.reading.check.Goals as goal
use Rattle.plan_bits.proofs.reading.check.Goals.{After-bit_length-end, After-field, After-head_of-head, After-row_length-count, Else-bytes-byte_length, In_ok-check_head}

pub returns-then-bytes-lt-HEAD_BYTES : goal.returns-then-bytes-lt-HEAD_BYTES
unfolding head_bits
returns-then-bytes-lt-HEAD_BYTES c = sym (read_short _ _ c.if-bytes-lt-HEAD_BYTES.true)

pub head_of-head-requires : goal.head_of-head-requires
unfolding head_bits
head_of-head-requires c = c.if-bytes-lt-HEAD_BYTES.false

whole : (c : After-head_of-head) → head_bytes ≤ length c.args.bytes.now
unfolding head_bits
whole c = c.if-bytes-lt-HEAD_BYTES.false

pub returns-in_err-check_head : goal.returns-in_err-check_head
returns-in_err-check_head c =
    let refused = c.in_err-check_head.ensures ∙ ap (λ h. first (head_checks h)) c.head_of-head.ensures in
    passed_on _ _ c.from_residual.ensures.1
    ∙ refused
    ∙ sym (read_head _ _ (whole (goal.at.returns-in_err-check_head c).After-head_of-head) (not_accepted _ _ refused))

head_ok : (c : In_ok-check_head) → HeadAccepted (head_of c.args.bytes.now)
head_ok c = sym (c.in_ok-check_head.ensures ∙ ap (λ h. first (head_checks h)) c.head_of-head.ensures)

-- of the head as it was read
head_ok_here : (c : In_ok-check_head) → HeadAccepted c.head_of-head.result
head_ok_here c = sym c.in_ok-check_head.ensures

pub byte_length-requires : goal.byte_length-requires
byte_length-requires c = head_ok_here (goal.at.byte_length-requires c).In_ok-check_head

pub returns-then-bytes-byte_length : goal.returns-then-bytes-byte_length
returns-then-bytes-byte_length c =
    sym
    (read_length _ _
    (whole (goal.at.returns-then-bytes-byte_length c).After-head_of-head)
    (head_ok (goal.at.returns-then-bytes-byte_length c).In_ok-check_head)
    (λ e. c.if-bytes-byte_length.true (e ∙ sym (c.byte_length.ensures ∙ ap byte_length c.head_of-head.ensures))))

length_is : (c : Else-bytes-byte_length) → length c.args.bytes.now ≡ byte_length (head_of c.args.bytes.now)
length_is c = c.if-bytes-byte_length.false ∙ c.byte_length.ensures ∙ ap byte_length c.head_of-head.ensures

pub bit_length-end-requires : goal.bit_length-end-requires
bit_length-end-requires c = head_ok_here (goal.at.bit_length-end-requires c).In_ok-check_head

-- the row ends in the last byte
ends : (c : After-bit_length-end) → (c.bit_length-end.result ≤ 8 * length c.args.bytes.now) × (8 * length c.args.bytes.now < c.bit_length-end.result + 8) × (length c.args.bytes.now < 2 ^ 16)
unfolding byte_length
ends c =
    omega (
      arith,
      c.bit_length-end.ensures,
      c.byte_length.ensures,
      c.if-bytes-byte_length.false,
      byte_length_fits c.head_of-head.result (sym c.in_ok-check_head.ensures),
      longest_between,
    )

pub overflow_mul-fill : goal.overflow_mul-fill
overflow_mul-fill c = omega (arith, ends (goal.at.overflow_mul-fill c).After-bit_length-end)

pub overflow_sub-fill : goal.overflow_sub-fill
overflow_sub-fill c = omega (arith, ends (goal.at.overflow_sub-fill c).After-bit_length-end)

pub field-requires : goal.field-requires
field-requires c = omega (arith, ends (goal.at.field-requires c).After-bit_length-end)

-- the fill's bits are those that the table looks at
padding : (c : After-field) → any (eqb 1) (fill_of c.args.bytes.now) ≡ not (eqb c.field.result 0)
unfolding fill_of
padding c =
    let bits = bits_of c.args.bytes.now in
    let end = c.bit_length-end.result in
    let rest : length (drop end bits) ≡ 8 * length c.args.bytes.now - end = rw (length-drop, length_bits_of) in
    let end_is : end ≡ bit_length (head_of c.args.bytes.now) = c.bit_length-end.ensures ∙ ap bit_length c.head_of-head.ensures in
    let read : c.field.result ≡ number (fill_of c.args.bytes.now) =
    c.field.ensures ∙ ap number (take_all _ _ (le_of_eq rest)) ∙ ap (λ n. number (drop n bits)) end_is
    in
    fill_test c.args.bytes.now ∙ ap (λ n. not (eqb n 0)) (sym read)

pub returns-then-field-ne0 : goal.returns-then-field-ne0
returns-then-field-ne0 c =
    sym
    (read_padding _ _
    (whole (goal.at.returns-then-field-ne0 c).After-head_of-head)
    (head_ok (goal.at.returns-then-field-ne0 c).In_ok-check_head)
    (length_is (goal.at.returns-then-field-ne0 c).Else-bytes-byte_length)
    (padding (goal.at.returns-then-field-ne0 c).After-field ∙ rw (ne_eqb _ 0 c.if-field-ne0.true)))

pub row_length-count-requires : goal.row_length-count-requires
row_length-count-requires c = head_ok_here (goal.at.row_length-count-requires c).In_ok-check_head

pub check_numbers-requires : goal.check_numbers-requires
unfolding bit_length
check_numbers-requires c =
    let limits = head_facts _ (head_ok_here (goal.at.check_numbers-requires c).In_ok-check_head) in
    omega (arith, c.row_length-count.ensures, ends (goal.at.check_numbers-requires c).After-bit_length-end, c.bit_length-end.ensures)

-- after the earlier checks the number of the plan that the bytes mean and the room decide
rest :
    (c : After-row_length-count) → head_bytes ≤ length c.args.bytes.now → HeadAccepted (head_of c.args.bytes.now)
    → length c.args.bytes.now ≡ byte_length (head_of c.args.bytes.now) → any (eqb 1) (fill_of c.args.bytes.now) ≡ false
    → (n : ℕ) → n ≡ plan_refusal c.head_of-head.result (fields number_width c.row_length-count.result (drop head_bits (bits_of c.args.bytes.now)))
    → read_refusal c.args.bytes.now c.args.room ≡ cond (eqb n 0) (cond (ltb c.args.room c.row_length-count.result) 11 0) n
unfolding fill_of head_bits row_of
rest c whole ok sized filled n number =
    let count_is : c.row_length-count.result ≡ row_length (head_of c.args.bytes.now) = c.row_length-count.ensures ∙ ap row_length c.head_of-head.ensures in
    let number_is : n ≡ plan_refusal (head_of c.args.bytes.now) (row_of c.args.bytes.now) =
    number ∙ ap₂ (λ h k. plan_refusal h (fields number_width k (drop head_bits (bits_of c.args.bytes.now)))) c.head_of-head.ensures count_is
    in
    read_rest _ _ whole ok sized filled ∙ ap₂ (λ n k. cond (eqb n 0) (cond (ltb c.args.room k) 11 0) n) (sym number_is) (sym count_is)

pub returns-in_err-check_numbers : goal.returns-in_err-check_numbers
returns-in_err-check_numbers c =
    let at = goal.at.returns-in_err-check_numbers c in
    passed_on _ _ c.from_residual-in_err-check_numbers.ensures.1
    ∙ sym
    (rest at.After-row_length-count
    (whole at.After-head_of-head)
    (head_ok at.In_ok-check_head)
    (length_is at.Else-bytes-byte_length)
    (padding at.After-field ∙ ap (λ n. not (eqb n 0)) c.if-field-ne0.false)
    _
    c.in_err-check_numbers.ensures
    ∙ rw (ne_eqb _ 0 (not_accepted c.in_err-check_numbers.field-0.0 _ refl)))

pub returns-then-room-count : goal.returns-then-room-count
returns-then-room-count c =
    let at = goal.at.returns-then-room-count c in
    sym
    (rest at.After-row_length-count
    (whole at.After-head_of-head)
    (head_ok at.In_ok-check_head)
    (length_is at.Else-bytes-byte_length)
    (padding at.After-field ∙ ap (λ n. not (eqb n 0)) c.if-field-ne0.false)
    _
    c.in_ok-check_numbers.ensures
    ∙ rw (lt-ltb _ _ c.if-room-count.true))

pub returns : goal.returns
returns c =
    let at = goal.at.returns c in
    sym
    (rest at.After-row_length-count
    (whole at.After-head_of-head)
    (head_ok at.In_ok-check_head)
    (length_is at.Else-bytes-byte_length)
    (padding at.After-field ∙ ap (λ n. not (eqb n 0)) c.if-field-ne0.false)
    _
    c.in_ok-check_numbers.ensures
    ∙ rw (le-ltb _ _ c.if-room-count.false))
