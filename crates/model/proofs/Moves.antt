-- How far a mixture of two numbers moves when its chance does: what each month is.
use mathlib.Core.Path.{ap}
use Prim.Native.Nat.{ℕ, ◌+◌, ◌*◌, ◌-◌, ◌≤◌, zero-le, ◌<◌}
use native.Mathlib.Nat.{add-mul, mul_comm, mul_left_comm, mul-add, mul-one, mul-le-mul_left, mul-le-mul_right}
use native.Mathlib.Omega.{arith}
use Rattle.model.specs.declared.Rounding.{Rounding}
use Rattle.model.specs.Scale.{S, quotient}
use Rattle.model.specs.Sensitivity.{distance}
use Rattle.model.proofs.Distances.{distance_is}
use Rattle.model.proofs.Quotients.{quotient_le, quotient_moves}
use Rattle.model.proofs.Month.{mixture_le, mixture_keeps}

-- That a number is at most g parts of D above another, which is at most S such parts.
pub record Near (g D a a' : ℕ) : Type 0 where
  pub apart : a ≤ a' + g * D
  pub fits : a' ≤ S * D

pub near_nothing : (g D : ℕ) → Near g D 0 0
near_nothing g D = record { apart = zero-le; fits = zero-le }

-- so many times as much, in parts that are so many times as large
pub near_times : {g D a a' : ℕ} (k : ℕ) → Near g D a a' → Near g (k * D) (k * a) (k * a')
near_times {g} {D} {a} {a'} k n =
    record {
      apart = rw (mul_left_comm g k D, ← mul-add k a' (g * D)) (mul-le-mul_left k n.apart);
      fits = rw (mul_left_comm S k D) (mul-le-mul_left k n.fits);
    }

-- a quotient by the parts, rounded either way
pub near_quotient : (round : Rounding) {g a a' : ℕ} (D : ℕ) → 0 < D → Near g D a a' → Near g 1 (quotient round a D) (quotient round a' D)
near_quotient round {g} {a} {a'} D some n =
    record {
      apart = rw mul-one (quotient_moves round a a' D g some (omega (arith, n.apart, mul_comm D g)));
      fits = rw mul-one (quotient_le round a' D S some (omega (arith, n.fits, mul_comm D S)));
    }

-- A mixture of two numbers by parts of S moves with its chance by at most what that moves by, for each part of the larger number.
mixture_moves :
    (P P' a b B : ℕ) → P ≤ S → P' ≤ S → a ≤ B → b ≤ B → (S - P) * a + P * b ≤ (S - P') * a + P' * b + distance P P' * B
mixture_moves P P' a b B hP hP' ha hb =
    omega (
      arith,
      simp add-mul at (mul-le-mul_right a quiet),
      simp add-mul at (mul-le-mul_right b claimed),
      mul-le-mul_left (P' - P) ha,
      mul-le-mul_left (P - P') hb,
      ap (λ (n : ℕ). n * B) (distance_is P P'),
      add-mul (P - P') (P' - P) B,
    )
  where
    quiet : S - P ≤ S - P' + (P' - P)
    quiet = omega arith

    claimed : P ≤ P' + (P - P')
    claimed = omega arith

-- The law of one month: a mixture of numbers that are near each other moves by what its chance does, and keeps income what these were apart.
pub mixture_near :
    {g D a b a' b' : ℕ} (P P' : ℕ) → P ≤ S → P' ≤ S → Near g D a a' → Near g D b b' →
    Near (distance P P' + g) (S * D) ((S - P) * a + P * b) ((S - P') * a' + P' * b')
mixture_near {g} {D} {a} {b} {a'} {b'} P P' hP hP' na nb =
    record {
      apart =
          omega (
            arith,
            mixture_keeps P a b a' b' (g * D) hP na.apart nb.apart,
            mixture_moves P P' a' b' (S * D) hP hP' na.fits nb.fits,
            add-mul (distance P P') g (S * D),
            mul_left_comm S g D,
          );
      fits = mixture_le P' a' b' (S * D) hP' na.fits nb.fits;
    }
