-- `read_part` meets its contract: what is told early, or what reading the plan's bytes answers and leaves (`PartLaws`).
use mathlib.Core.Path.{refl, sym, ◌∙◌}
use Prim.Native.Nat.{◌≤◌}
use lib.ListN.{length}
use Rattle.std.proofs.lemmas.Result.{IfOk-from_err}
use Rattle.model.specs.Format.{head_bytes, head_of}
use Rattle.model.specs.Refusal.{HeadAccepted}
use Rattle.model.proofs.RefusalNumbers.{not_accepted, passed_on}
use Rattle.mixture_bytes.proofs.PartLaws.{early_is, early_none, row_kept, part_answered}
use Rattle.mixture_bytes.proofs.read_part.Goals as goal
use Rattle.mixture_bytes.proofs.read_part.Goals.{In_ok-check_early}

known : (c : In_ok-check_early) → (head_bytes ≤ length c.args.bytes.now) × HeadAccepted (head_of c.args.bytes.now)
known c = early_none _ _ c.in_ok-check_early.ensures refl

pub returns-in_err-check_early : goal.returns-in_err-check_early
returns-in_err-check_early c =
    let a = c.args in
    let number = early_is a.last a.bytes.now _ c.in_err-check_early.ensures (not_accepted _ _ refl) in
    record {
      number = passed_on _ _ c.from_residual.ensures.1 ∙ number;
      read = IfOk-from_err _ _ c.from_residual.ensures.0;
      memory = sym (row_kept a.last a.bytes.now a.row.now _ c.requires number (not_accepted _ _ refl));
    }

pub part_length-length-requires : goal.part_length-length-requires
part_length-length-requires c = known (goal.at.part_length-length-requires c).In_ok-check_early

pub returns-in_err-head : goal.returns-in_err-head
returns-in_err-head c =
    let a = c.args in
    let both = part_answered a.last a.bytes.now (known (goal.at.returns-in_err-head c).In_ok-check_early).0 _ c.part_length-length.ensures a.row.now _ c.requires _ c.in_err-head.ensures.answer c.in_err-head.ensures.memory in
    record { number = passed_on _ _ c.from_residual-in_err-head.ensures.1 ∙ both.0; read = IfOk-from_err _ _ c.from_residual-in_err-head.ensures.0; memory = both.1.1 }

pub returns : goal.returns
returns c =
    let a = c.args in
    let both = part_answered a.last a.bytes.now (known (goal.at.returns c).In_ok-check_early).0 _ c.part_length-length.ensures a.row.now _ c.requires _ c.in_ok-head.ensures.answer c.in_ok-head.ensures.memory in
    record { number = both.0; read = both.1.0 refl; memory = both.1.1 }
