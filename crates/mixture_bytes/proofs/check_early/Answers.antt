-- `check_early` meets its contract: too few bytes, or the head's own number.
use mathlib.Core.Path.{ap, ◌∙◌}
use borrow.Author.Tests.{lt-ltb, le-ltb}
use Rattle.model.specs.declared.Head.{Head}
use Rattle.model.specs.Format.{head_bits}
use Rattle.model.specs.Refusal.{first, head_checks}
use Rattle.mixture_bytes.specs.Refusal.{early_refusal}
use Rattle.mixture_bytes.proofs.check_early.Goals as goal

pub returns-then-bytes-lt-HEAD_BYTES : goal.returns-then-bytes-lt-HEAD_BYTES
unfolding early_refusal head_bits
returns-then-bytes-lt-HEAD_BYTES c = rw (lt-ltb _ _ c.if-bytes-lt-HEAD_BYTES.true)

pub head_of-requires : goal.head_of-requires
unfolding head_bits
head_of-requires c = c.if-bytes-lt-HEAD_BYTES.false

pub returns : goal.returns
unfolding early_refusal head_bits
returns c =
    rw (le-ltb _ _ c.if-bytes-lt-HEAD_BYTES.false)
    (c.check_head.ensures ∙ ap (λ (h : Head). first (head_checks h)) c.head_of.ensures)
