-- `sheet_checks::check_kind` meets its contract.
use mathlib.Core.Path.{◌≡◌, sym, ◌∙◌}
use Rattle.sheet_values.specs.Sheet.{number_at, kind_of}
use Rattle.sheet_checks.proofs.CheckLaws.{not_a_sheet, known_kind, other_kind}
use Rattle.sheet_checks.proofs.check_kind.Goals as goal
use Rattle.sheet_checks.proofs.check_kind.Goals.{After-big_endian}

pub returns-then-bytes-ne-LENGTH : goal.returns-then-bytes-ne-LENGTH
returns-then-bytes-ne-LENGTH c = sym (not_a_sheet c.args.bytes.now c.if-bytes-ne-LENGTH.true)

kind-is : (c : After-big_endian) → c.big_endian.result ≡ kind_of c.args.bytes.now
unfolding number_at
kind-is c = c.big_endian.ensures.number

pub returns-in-Ok : goal.returns-in-Ok
returns-in-Ok c =
    let kind = kind-is (goal.at.returns-in-Ok c).After-big_endian in
    sym (known_kind _ c.if-bytes-ne-LENGTH.false c.in-Ok.field-0 (c.in-Ok.ensures ∙ kind))

pub returns-in-Err : goal.returns-in-Err
returns-in-Err c =
    let kind = kind-is (goal.at.returns-in-Err c).After-big_endian in
    sym (other_kind _ c.if-bytes-ne-LENGTH.false (λ e. c.in-Err.ensures.0 (kind ∙ e)) (λ e. c.in-Err.ensures.1 (kind ∙ e)))
