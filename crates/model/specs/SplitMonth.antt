-- Document 02's month as it is worked out in machine numbers: "The claim sum shall hand back what is left over as well", and both are used by quotients by
-- S alone. That this is the exact quotient by S × S is a law.
use Rattle.std.specs.Prelude.{ℕ, ◌+◌, ◌*◌, ◌-◌}
use Rattle.model.specs.declared.Rounding.{Rounding}
use Rattle.model.specs.Scale.{S, quotient}

-- with A the claim sum's quotient by S and R what is left over: (S − P) × V + P × A + (P × R by S, rounded the same way)
unfoldable pub split_parts : Rounding → ℕ → ℕ → ℕ → ℕ → ℕ
split_parts round P quiet A R = (S - P) * quiet + P * A + quotient round (P * R) S

unfoldable pub split_month : Rounding → ℕ → ℕ → ℕ → ℕ → ℕ
split_month round P quiet A R = quotient round (split_parts round P quiet A R) S
