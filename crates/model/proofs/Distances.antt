-- Laws of the difference of two numbers, and of its sum over the months of two plans.
use mathlib.Core.Path.{◌≡◌, refl, ap₂}
use mathlib.Core.List.{List, [], ◌∷◌, ◌++◌, zip_with}
use Prim.Native.Nat.{ℕ, ◌+◌, ◌-◌, ◌≤◌}
use native.Mathlib.Omega.{arith}
use lib.ListN.{length}
use Rattle.model.specs.Sums.{total}
use Rattle.model.specs.Sensitivity.{distance, chances_apart}

-- what one number exceeds the other by, whichever it is
pub distance_is : (a b : ℕ) → distance a b ≡ (a - b) + (b - a)
unfolding distance
distance_is a b = omega arith

pub distance_le : {a b c : ℕ} → a ≤ b + c → b ≤ a + c → distance a b ≤ c
distance_le {a} {b} l m = omega (arith, distance_is a b)

pub distance_comm : (a b : ℕ) → distance a b ≡ distance b a
distance_comm a b = omega (arith, distance_is a b, distance_is b a)

-- each of two numbers is at most the other and what they differ by
pub within_distance : (a b c : ℕ) → distance a b ≤ c → (a ≤ b + c) × (b ≤ a + c)
within_distance a b c l = (omega (arith, distance_is a b), omega (arith, distance_is a b))

-- no months, and a month more
pub apart_none : chances_apart [] [] ≡ 0
unfolding chances_apart total zip_with
apart_none = refl

pub apart_more : (P P' : ℕ) (Ps Ps' : List ℕ) → chances_apart (P ∷ Ps) (P' ∷ Ps') ≡ distance P P' + chances_apart Ps Ps'
unfolding chances_apart total zip_with
apart_more P P' Ps Ps' = refl

pub apart_comm : (Ps Ps' : List ℕ) → chances_apart Ps Ps' ≡ chances_apart Ps' Ps
unfolding chances_apart total zip_with
apart_comm [] [] = refl
apart_comm [] (P' ∷ Ps') = refl
apart_comm (P ∷ Ps) [] = refl
apart_comm (P ∷ Ps) (P' ∷ Ps') = ap₂ (λ (a b : ℕ). a + b) (distance_comm P P') (apart_comm Ps Ps')

-- months on top of others
pub apart_append :
    (Ps Ps' Qs Qs' : List ℕ) → length Ps ≡ length Ps' → chances_apart (Ps ++ Qs) (Ps' ++ Qs') ≡ chances_apart Ps Ps' + chances_apart Qs Qs'
unfolding chances_apart total zip_with
apart_append [] [] Qs Qs' e = omega arith
apart_append [] (P' ∷ Ps') Qs Qs' e = absurd (omega arith)
apart_append (P ∷ Ps) [] Qs Qs' e = absurd (omega arith)
apart_append (P ∷ Ps) (P' ∷ Ps') Qs Qs' e = omega (arith, apart_append Ps Ps' Qs Qs' (omega arith))
