-- `put_accepted` meets its contract: the plans' rows lie in the lent one.
use mathlib.Core.Path.{sym}
use lib.Seq.{length-take-le}
use Rattle.mixture_text.proofs.put_accepted.Goals as goal

pub slice_bounds-put_mixture-end : goal.slice_bounds-put_mixture-end
slice_bounds-put_mixture-end c = sym (length-take-le _ _ c.requires.mixture_text_room_in_bounds.1)
