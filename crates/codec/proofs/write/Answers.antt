-- `codec::write` meets its contract. A plan that nothing refuses is encoded into the first part of the bytes, which the rest follows.
use Prim.Native.Nat.{◌≤◌}
use mathlib.Core.Path.{sym, ap, ap₂, ◌∙◌}
use mathlib.Core.List.{◌++◌}
use native.Mathlib.Omega.{arith}
use lib.ListN.{length, drop}
use lib.Seq.{length-take-le}
use Rattle.model.specs.Format.{byte_length}
use Rattle.model.specs.Refusal.{Accepted}
use Rattle.model.proofs.Facts.{accepted_head}
use Rattle.plan_bits.proofs.RefusalLaws.{written}
use Rattle.codec.specs.Answers.{length_result}
use Rattle.model.proofs.RefusalNumbers.{not_accepted, handed_on}
use Rattle.codec.proofs.Answered.{written_as, length_answered, length_refused}
use Rattle.model.proofs.MemoryLaws.{filled, kept}
use Rattle.codec.proofs.write.Goals as goal
use Rattle.codec.proofs.write.Goals.{In_ok-check}

-- The lent bytes are stored to where nothing is refused alone.
pub returns-in_err-check : goal.returns-in_err-check
returns-in_err-check c =
    let refused = c.in_err-check.ensures in
    record {
      answer = ap length_result (handed_on _ _ c.from_residual.ensures.1) ∙ ap (λ n. written_as n 0) refused ∙ sym (length_refused _ _ (not_accepted _ _ refused));
      memory = sym (kept _ _ _ _ (not_accepted _ _ refused));
    }

known : (c : In_ok-check) → Accepted c.args.head c.args.row.now × (byte_length c.args.head ≤ length c.args.bytes.now)
known c = written _ _ _ (sym c.in_ok-check.ensures)

pub byte_length-length-requires : goal.byte_length-length-requires
byte_length-length-requires c = accepted_head _ _ (known (goal.at.byte_length-length-requires c).In_ok-check).0

pub slice_bounds-encode-end : goal.slice_bounds-encode-end
slice_bounds-encode-end c = omega (arith, c.byte_length-length.ensures, (known (goal.at.slice_bounds-encode-end c).In_ok-check).1)

pub slice_bounds-encode-end-2 : goal.slice_bounds-encode-end-2
slice_bounds-encode-end-2 c = sym (length-take-le _ _ (omega (arith, c.byte_length-length.ensures, (known (goal.at.slice_bounds-encode-end-2 c).In_ok-check).1)))

pub returns : goal.returns
returns c = record {
  answer = ap (written_as 0) c.byte_length-length.ensures ∙ sym (length_answered _ _ (sym c.in_ok-check.ensures));
  memory = ap₂ (λ l n. l ++ drop n c.args.bytes.now) c.encode.ensures c.byte_length-length.ensures
      ∙ sym (filled _ _ _ _ (sym c.in_ok-check.ensures));
}

pub encode-requires : goal.encode-requires
encode-requires c = (
  (known (goal.at.encode-requires c).In_ok-check).0,
  length-take-le _ _ (omega (arith, c.byte_length-length.ensures, (known (goal.at.encode-requires c).In_ok-check).1)) ∙ c.byte_length-length.ensures,
)
