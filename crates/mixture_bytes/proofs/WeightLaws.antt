-- The weights, read one by one.
use Prim.Native.Nat.{ℕ, suc, ◌+◌, ◌*◌, ◌-◌, ◌<◌, ◌≤◌}
use mathlib.Core.Path.{◌≡◌, sym, ap, ◌∙◌}
use mathlib.Core.List.{List, [], ◌∷◌, ◌++◌, append_assoc, append-nil}
use native.Mathlib.Numerals.{add-one}
use native.Mathlib.Omega.{arith}
use lib.ListN.{length, take, drop, set, length-set}
use lib.Seq.{take-suc-set, drop-drop}
use Rattle.numbers.specs.Bytes.{big_endian}
use Rattle.model.specs.Limits.{max_plans}
use Rattle.mixture_bytes.specs.Format.{weights_in}

-- The first i weights are read: with those that are left they are all.
pub record Weighing (bytes : List ℕ) (count : ℕ) (weights : List ℕ) (i : ℕ) : Type 0 where
  pub turns : i ≤ count
  pub long : length weights ≡ max_plans
  pub whole : take i weights ++ weights_in (count - i) (drop (4 * i) bytes) ≡ weights_in count bytes

module _ (bytes : List ℕ) (count : ℕ) (weights : List ℕ) where
  module _ (i : ℕ) (so_far : Weighing bytes count weights i) where
    -- the next weight, and those after it
    next : i < count → weights_in (count - i) (drop (4 * i) bytes) ≡ big_endian (take 4 (drop (4 * i) bytes)) ∷ weights_in (count - (i + 1)) (drop (4 * (i + 1)) bytes)
    unfolding weights_in
    next l =
        let left : count - i ≡ suc (count - (i + 1)) = omega arith in
        let on : 4 * i + 4 ≡ 4 * (i + 1) = omega arith in
        rw (left, ← on, ← drop-drop 4 (4 * i) bytes)

    pub weighing_more :
        i < count → count ≤ max_plans → (w : ℕ) → w ≡ big_endian (take 4 (drop (4 * i) bytes)) → Weighing bytes count (set weights i w) (i + 1)
    weighing_more l few w e =
        let first_ones : take (i + 1) (set weights i w) ≡ take i weights ++ (w ∷ []) = rw add-one (take-suc-set weights i w (omega (arith, so_far.long))) in
        record {
          turns = omega arith;
          long = length-set weights i w ∙ so_far.long;
          whole =
              ap (λ (ws : List ℕ). ws ++ weights_in (count - (i + 1)) (drop (4 * (i + 1)) bytes)) first_ones
              ∙ append_assoc (take i weights) (w ∷ []) (weights_in (count - (i + 1)) (drop (4 * (i + 1)) bytes))
              ∙ ap (λ (ws : List ℕ). take i weights ++ ws) (ap (λ (x : ℕ). x ∷ weights_in (count - (i + 1)) (drop (4 * (i + 1)) bytes)) e ∙ sym (next l))
              ∙ so_far.whole;
        }

    pub weighing_done : count ≤ i → take count weights ≡ weights_in count bytes
    unfolding weights_in
    weighing_done all =
        let here : i ≡ count = omega (arith, so_far.turns) in
        let none : count - count ≡ 0 = omega arith in
        sym (append-nil (take count weights)) ∙ (rw (here, none) at so_far.whole)
