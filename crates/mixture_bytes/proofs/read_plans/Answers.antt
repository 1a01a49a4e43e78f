use Prim.Native.Nat.{◌+◌, ◌-◌}
use mathlib.Core.Path.{refl, ◌∙◌}
use native.Mathlib.Omega.{arith}
use lib.ListN.{set}
use borrow.Rule.Slice.PartMut.{mid_of, put_mid}
use Rattle.std.proofs.lemmas.Result.{IfOk-from_err}
use Rattle.model.specs.Limits.{row_room}
use Rattle.model.proofs.RefusalNumbers.{not_accepted, passed_on}
use Rattle.mixture_bytes.proofs.ReadingLaws.{Reading, reading_refused, reading_more, reading_done, lent_number, lent_read, lent_row}
use Rattle.mixture_bytes.proofs.read_plans.Goals as goal
use Rattle.mixture_bytes.proofs.read_plans.Goals.{After-row_length-used}

pub returns-in_err-part : goal.returns-in_err-part
returns-in_err-part c =
    let l = c.loop-i in
    let lent = mid_of l.used (l.used + row_room - l.used) l.row in
    let number = lent_number _ l.start _ _ c.in_err-part.ensures.number in
    let back = lent_row _ l.start _ lent _ c.in_err-part.ensures.memory in
    let refused = reading_refused _ _ _ c.requires.count_nonzero.1 c.requires.row_len _ _ _ _ _ l.invariant c.loop-i-test.true _ number _ back (not_accepted _ _ refl) in
    record { number = passed_on _ _ c.from_residual.ensures.1 ∙ refused.0; read = IfOk-from_err _ _ c.from_residual.ensures.0; memory = refused.1 }

-- the plans read so far, with this one
next :
    (c : After-row_length-used) →
    let a = c.args in
    let l = c.loop-i in
    let p = c.in_ok-part.part in
    Reading a.bytes.now a.count a.row.now (put_mid l.used (l.used + row_room - l.used) l.row c.read_part.new.row) (set l.heads l.i p.head) (l.i + 1) (l.start + p.length)
    (l.used + c.row_length-used.result)
next c =
    let l = c.loop-i in
    let lent = mid_of l.used (l.used + row_room - l.used) l.row in
    let number = lent_number _ l.start _ _ c.in_ok-part.ensures.number in
    let read = lent_read _ l.start _ _ _ c.in_ok-part.ensures.read in
    let back = lent_row _ l.start _ lent _ c.in_ok-part.ensures.memory in
    reading_more _ _ _ c.requires.count_nonzero.1 c.requires.row_len _ _ _ _ _ l.invariant c.loop-i-test.true _ number _ back refl _ _ read _ c.row_length-used.ensures

pub overflow_add-used : goal.overflow_add-used
overflow_add-used c =
    omega (arith, (next (goal.at.overflow_add-used c).After-row_length-used).few)

pub loop-i-preserved : goal.loop-i-preserved
loop-i-preserved c = next (goal.at.loop-i-preserved c).After-row_length-used

pub returns : goal.returns
returns c =
    let done = reading_done _ _ _ c.requires.count_nonzero.1 c.requires.row_len _ _ _ _ _ c.loop-i.invariant c.loop-i-test.false in
    record { number = done.0; read = done.1.0; memory = done.1.1 }
