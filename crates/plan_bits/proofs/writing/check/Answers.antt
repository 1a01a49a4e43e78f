-- `plan_bits::writing::check` meets its contract: the plan's own refusal, and then the room.
use mathlib.Core.Path.{◌≡◌, sym, ap, ◌∙◌}
use mathlib.Core.Bool.{cond}
use borrow.Author.Tests.{lt-ltb, le-ltb}
use lib.Dec.{ltb}
use Rattle.model.specs.Refusal.{write_refusal}
use Rattle.model.proofs.RefusalNumbers.{not_accepted, passed_on}
use Rattle.model.proofs.Facts.{accepted_head}
use Rattle.plan_bits.proofs.RefusalLaws.{write_refused, write_room}
use Rattle.plan_bits.proofs.writing.check.Goals as goal
use Rattle.plan_bits.proofs.writing.check.Goals.{After-byte_length}

pub returns-in_err-check_plan : goal.returns-in_err-check_plan
returns-in_err-check_plan c =
    let refused = c.in_err-check_plan.ensures in
    passed_on _ _ c.from_residual.ensures.1 ∙ refused ∙ sym (write_refused _ _ _ (not_accepted _ _ refused))

pub byte_length-requires : goal.byte_length-requires
byte_length-requires c = accepted_head _ _ (sym c.in_ok-check_plan.ensures)

-- only the room is left
room_left : (c : After-byte_length) → write_refusal c.args.head c.args.row.now c.args.room ≡ cond (ltb c.args.room c.byte_length.result) 11 0
room_left c = write_room _ _ _ (sym c.in_ok-check_plan.ensures) ∙ ap (λ n. cond (ltb c.args.room n) 11 0) (sym c.byte_length.ensures)

pub returns-then-room-byte_length : goal.returns-then-room-byte_length
returns-then-room-byte_length c = sym (room_left (goal.at.returns-then-room-byte_length c).After-byte_length ∙ rw (lt-ltb _ _ c.if-room-byte_length.true))

pub returns : goal.returns
returns c = sym (room_left (goal.at.returns c).After-byte_length ∙ rw (le-ltb _ _ c.if-room-byte_length.false))
