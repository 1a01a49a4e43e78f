-- `codec::read` meets its contract. Bytes that nothing refuses are decoded into the first part of the row, which the rest follows.
use Prim.Native.Nat.{◌≤◌}
use mathlib.Core.Path.{◌≡◌, sym, ap, ap₂, ◌∙◌}
use mathlib.Core.List.{◌++◌}
use native.Mathlib.Omega.{arith}
use lib.ListN.{length, drop, length-take}
use lib.Seq.{length-take-le}
use Rattle.model.specs.Plan.{row_length}
use Rattle.model.specs.Format.{number_width, head_bits, bits_of, fields, head_of, row_of}
use Rattle.model.specs.Refusal.{HeadAccepted}
use Rattle.model.proofs.Facts.{head_facts}
use Rattle.codec.specs.Answers.{no_head, head_result}
use Rattle.model.proofs.RefusalNumbers.{not_accepted, handed_on}
use Rattle.plan_bits.proofs.RefusalLaws.{Readable, readable, row_inside}
use Rattle.codec.proofs.Answered.{read_as, head_answered, head_refused}
use Rattle.model.proofs.MemoryLaws.{filled, kept}
use Rattle.codec.proofs.read.Goals as goal
use Rattle.codec.proofs.read.Goals.{After-decode, After-head_of-head, After-row_length-count, In_ok-check}

-- The lent row is stored to where nothing is refused alone.
pub returns-in_err-check : goal.returns-in_err-check
unfolding no_head
returns-in_err-check c =
    let refused = c.in_err-check.ensures in
    record {
      answer = ap head_result (handed_on _ _ c.from_residual.ensures.1) ∙ ap (λ n. read_as n no_head) refused ∙ sym (head_refused _ _ (not_accepted _ _ refused));
      memory = sym (kept _ _ _ _ (not_accepted _ _ refused));
    }

known : (c : In_ok-check) → Readable c.args.bytes.now (length c.args.row.now)
known c = readable _ _ (sym c.in_ok-check.ensures)

pub head_of-head-requires : goal.head_of-head-requires
head_of-head-requires c = (known (goal.at.head_of-head-requires c).In_ok-check).whole_head

head_ok : (c : After-head_of-head) → HeadAccepted c.head_of-head.result
head_ok c = rw c.head_of-head.ensures (readable _ (length c.args.row.now) (sym c.in_ok-check.ensures)).head_ok

pub row_length-count-requires : goal.row_length-count-requires
row_length-count-requires c = head_ok (goal.at.row_length-count-requires c).After-head_of-head

count_is : (c : After-row_length-count) → c.row_length-count.result ≡ row_length (head_of c.args.bytes.now)
count_is c = c.row_length-count.ensures ∙ ap row_length c.head_of-head.ensures

pub slice_bounds-decode-end : goal.slice_bounds-decode-end
slice_bounds-decode-end c = omega (arith, count_is (goal.at.slice_bounds-decode-end c).After-row_length-count, (known (goal.at.slice_bounds-decode-end c).In_ok-check).row_fits)

pub slice_bounds-decode-end-2 : goal.slice_bounds-decode-end-2
slice_bounds-decode-end-2 c =
    sym
    (length-take-le _ _
    (omega (
      arith,
      count_is (goal.at.slice_bounds-decode-end-2 c).After-row_length-count,
      (known (goal.at.slice_bounds-decode-end-2 c).In_ok-check).row_fits,
    )))

-- what is stored is the plan's row
decoded : (c : After-decode) → c.decode.new.row ≡ row_of c.args.bytes.now
unfolding row_of
decoded c =
    let count : c.row_length-count.result ≡ row_length (head_of c.args.bytes.now) = c.row_length-count.ensures ∙ ap row_length c.head_of-head.ensures in
    let known : Readable c.args.bytes.now (length c.args.row.now) = readable _ _ (sym c.in_ok-check.ensures) in
    let fits : c.row_length-count.result ≤ length c.args.row.now = omega (arith, count, known.row_fits) in
    c.decode.ensures
    ∙ ap
    (λ n. fields number_width n (drop head_bits (bits_of c.args.bytes.now)))
    (length-take-le _ _ fits ∙ count)

pub returns : goal.returns
returns c = record {
  answer = ap (read_as 0) c.head_of-head.ensures ∙ sym (head_answered _ _ (sym c.in_ok-check.ensures));
  memory = ap₂ (λ l n. l ++ drop n c.args.row.now) (decoded (goal.at.returns c).After-decode) (count_is (goal.at.returns c).After-row_length-count)
      ∙ sym (filled _ _ _ _ (sym c.in_ok-check.ensures));
}

pub decode-requires : goal.decode-requires
decode-requires c =
    simp length-take
    (omega (
      arith,
      count_is (goal.at.decode-requires c).After-row_length-count,
      c.row_length-count.ensures,
      head_facts _ (head_ok (goal.at.decode-requires c).After-head_of-head),
      row_inside _ _ (known (goal.at.decode-requires c).In_ok-check),
    ))
