-- Laws of the search: its answer, and the workspace that it leaves.
use Prim.Native.Nat.{ℕ, ◌+◌, ◌*◌, ◌-◌, ◌≤◌, ◌<◌}
use mathlib.Core.Path.{◌≡◌, sym, ◌∙◌, ap}
use mathlib.Core.List.{List, ◌++◌}
use native.Mathlib.Omega.{arith}
use borrow.Author.Tests.{lt-ltb, le-ltb}
use borrow.Rule.Slice.PartMut.{mid_of, put_mid}
use lib.Dec.{leb}
use lib.ListN.{length, take, drop, replicate, length-drop, length-replicate, replicate-append-replicate}
use lib.Seq.{drop_at, length-take-le}
use Rattle.model.specs.declared.Rounding.TheVariants.{Down, Up}
use Rattle.month_rule.proofs.HalfLaws.{second_lent, after_both}
use Rattle.questions.specs.Survival.{survival_row}
use Rattle.target_rows.specs.Least.{least}
use Rattle.opening_search.specs.Answers.{LeastAnswer, refused}
use Rattle.opening_search.specs.Search.{search_answer}

-- the answer, from the least opening: one above the largest where none reaches the target
module _ (income : ℕ) (F : List ℕ) (opening : ℕ) (chances : List ℕ) (target v : ℕ) (found : v ≡ least (opening + 1) (λ s. leb target (survival_row Down income F chances s))) where
  pub none_found : opening < v → (r : LeastAnswer) → r ≡ refused 15 → r ≡ search_answer income F opening chances target
  unfolding search_answer
  none_found l r e = rw (← found, lt-ltb opening v l) e

  pub one_found :
      v ≤ opening → (low high : ℕ) → low ≡ survival_row Down income F chances v → high ≡ survival_row Up income F chances v →
      ◌≡◌ {A = LeastAnswer} (record { refusal = 0; opening = v; lower = low; upper = high }) (search_answer income F opening chances target)
  unfolding search_answer
  one_found l low high el eh = rw (← found, le-ltb opening v l, el, eh)

-- a workspace that was all 0, of which a first part came back all 0
module _ (n half : ℕ) (fits : half ≤ n) (xs front : List ℕ) (zeros : xs ≡ replicate n 0) (cleared : front ≡ replicate (length (take half xs)) 0) where
  count : length xs ≡ n
  count = ap length zeros ∙ length-replicate n 0

  front_is : front ≡ replicate half 0
  front_is = cleared ∙ ap (λ (k : ℕ). replicate k 0) (length-take-le half xs (omega (arith, count)))

  rest_is : drop half xs ≡ replicate (n - half) 0
  rest_is =
      let all : half + (n - half) ≡ n = omega arith in
      let parts : xs ≡ replicate half 0 ++ replicate (n - half) 0 = zeros ∙ ap (λ (k : ℕ). replicate k 0) (sym all) ∙ sym (replicate-append-replicate half (n - half) 0) in
      ap (drop half) parts ∙ drop_at (replicate half 0) (replicate (n - half) 0) half (length-replicate half 0)

  pub zero_still : front ++ drop half xs ≡ replicate n 0
  zero_still =
      let all : half + (n - half) ≡ n = omega arith in
      rw (front_is, rest_is) (replicate-append-replicate half (n - half) 0 ∙ ap (λ (k : ℕ). replicate k 0) all)

  -- and the second half as well
  module _ (whole : n ≡ 2 * half) (same : length front ≡ length (take half xs)) where
    pub second_count : length (mid_of half (length (front ++ drop half xs) - half) (front ++ drop half xs)) ≡ half
    second_count =
        ap length (second_lent xs front front half (count ∙ whole) same) ∙ length-drop half xs ∙ omega (arith, count)

    pub zero_again :
        (back : List ℕ) → back ≡ replicate (length (mid_of half (length (front ++ drop half xs) - half) (front ++ drop half xs))) 0 →
        put_mid half (length (front ++ drop half xs) - half) (front ++ drop half xs) back ≡ replicate n 0
    zero_again back again =
        let all : half + half ≡ n = omega arith in
        after_both xs front back half (count ∙ whole) same
        ∙ rw (front_is, again ∙ ap (λ (k : ℕ). replicate k 0) second_count) (replicate-append-replicate half half 0 ∙ ap (λ (k : ℕ). replicate k 0) all)
