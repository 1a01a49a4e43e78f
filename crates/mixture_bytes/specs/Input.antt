-- What a program takes in.
use Rattle.std.specs.Prelude.{ℕ, ◌+◌, ◌*◌}
use Rattle.model.specs.Limits.{max_plans}
use Rattle.model.specs.Figures.{longest_plan}
use Rattle.mixture_bytes.specs.Format.{plans_start}

-- the bytes of the longest mixture: the most plans, each of them the longest
abbrev pub longest_mixture : ℕ
longest_mixture = plans_start max_plans + max_plans * longest_plan

-- the bytes of the buffer into which a program reads a mixture; it reads no further, whatever follows
abbrev pub mixture_input_room : ℕ
mixture_input_room = 65536
