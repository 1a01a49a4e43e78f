-- "Minus zero counts as zero": sheets that differ only in the signs of zeros are answered alike, with the same plan.
use Prim.Native.Nat.{ℕ, zero, suc, ◌-◌}
use mathlib.Core.Path.{◌≡◌, refl, ap, ap₂, ◌∙◌, subst, fun_ext}
use mathlib.Core.Bool.{Bool, true, false, not, ◌&&◌, ◌||◌, cond}
use mathlib.Core.List.{List, [], ◌∷◌, ◌++◌, map}
use lib.Dec.{ltb, eqb}
use lib.Ieee.{Float, binary64, sub, mul}
use lib.ListN.{length}
use Rattle.model.specs.declared.Head.{Head}
use Rattle.model.specs.Scale.{S}
use Rattle.model.specs.Sums.{one_to, total, any}
use Rattle.model.specs.Plan.{plan_of, row_length}
use Rattle.model.specs.Format.{byte_length, bytes_of}
use Rattle.model.specs.Refusal.{first, head_checks, tail_survivable, room_check}
use Rattle.codec.specs.Answers.{head_answer, length_answer}
use Rattle.model.specs.Memory.{filled_after}
use Rattle.doubles.specs.Doubles.{one, within, parts}
use Rattle.doubles.proofs.ZeroLaws.{Alike, same, parts_alike, finite_alike, within_alike, below_zero_alike, below_one_alike, not_zero_alike, add_alike, mul_alike, sub_alike}
use Rattle.sheet_values.specs.declared.ChanceRule.TheVariants.{Level, Ramp}
use Rattle.sheet_values.specs.Sheet.{sheet_length, kind_of, first_of, step_of, alpha_of, sheet_rule, sheet_of, sheet_head}
use Rattle.sheet_values.specs.Rules.{repeated, chance, weight, chances, weights, tail, size_part, sheet_row}
use Rattle.sheet_checks.specs.Refusal.{kind_checks, rule_checks, weight_checks, sheet_checks, sheet_refusal}
use Rattle.sheet_plan.specs.Answers.{plan_head, plan_row, sheet_answer, sheet_row_after, plan_answer, plan_bytes_after}
use Rattle.sheet_values.proofs.RuleLaws.{level_chance, ramp_chance}

-- two sheets that are the same but for the signs of zeros
pub record SameButSigns (x y : List ℕ) : Type 0 where
  pub length_same : length x ≡ length y
  pub kind_same : kind_of x ≡ kind_of y
  pub head_same : plan_head x ≡ plan_head y
  pub first_alike : Alike (first_of x) (first_of y)
  pub step_alike : Alike (step_of x) (step_of y)
  pub alpha_alike : Alike (alpha_of x) (alpha_of y)

-- ---- the rules

module _ {a b : Float} (alpha_alike : Alike a b) where
  repeated_alike : (n : ℕ) → Alike (repeated n (λ w. mul binary64 w a) (sub binary64 one a)) (repeated n (λ w. mul binary64 w b) (sub binary64 one b))
  unfolding repeated
  repeated_alike zero = sub_alike one alpha_alike
  repeated_alike (suc n) = mul_alike (repeated_alike n) alpha_alike

  weights_same : (m : ℕ) → weights a m ≡ weights b m
  unfolding weights weight
  weights_same m = ap (λ f. map f (one_to m)) (fun_ext (λ x. parts_alike (repeated_alike (x - 1))))

-- a chance by either rule
chosen_alike :
    (level : Bool) {f f' s s' : Float} → Alike f f' → Alike s s' → (i : ℕ)
    → Alike (chance (cond level (Level f) (Ramp f s)) i) (chance (cond level (Level f') (Ramp f' s')) i)
chosen_alike true {f} {f'} first step i = rw (level_chance f i, level_chance f' i) first
chosen_alike false {f} {f'} {s} {s'} first step i = rw (ramp_chance f s i, ramp_chance f' s' i) (add_alike first (mul_alike (same refl) step))

module _ (x y : List ℕ) (alike : SameButSigns x y) where
  chance_alike : (i : ℕ) → Alike (chance (sheet_rule x) i) (chance (sheet_rule y) i)
  unfolding sheet_rule
  chance_alike i =
      subst (λ k. Alike (chance (sheet_rule x) i) (chance (cond (eqb k 1) (Level (first_of y)) (Ramp (first_of y) (step_of y))) i)) alike.kind_same
      (chosen_alike (eqb (kind_of x) 1) alike.first_alike alike.step_alike i)

  months_same : (sheet_of x).months ≡ (sheet_of y).months
  unfolding sheet_head
  months_same = ap (λ h. h.months) alike.head_same

  sizes_same : (sheet_of x).sizes ≡ (sheet_of y).sizes
  unfolding sheet_head
  sizes_same = ap (λ h. h.sizes) alike.head_same

  all_weights_same : weights (alpha_of x) (sheet_of x).sizes ≡ weights (alpha_of y) (sheet_of y).sizes
  all_weights_same = weights_same alike.alpha_alike _ ∙ ap (weights (alpha_of y)) sizes_same

  -- the row
  pub row_same : plan_row x ≡ plan_row y
  unfolding sheet_of sheet_row size_part chances tail
  row_same =
      let parts_same : ◌≡◌ {A = ℕ → ℕ} (λ i. parts (chance (sheet_rule x) i)) (λ i. parts (chance (sheet_rule y) i)) = fun_ext (λ i. parts_alike (chance_alike i)) in
      λ i. map (parts_same i) (one_to (months_same i)) ++ (all_weights_same i ++ (S - total (all_weights_same i)) ∷ [])

  -- the checks
  kinds_same : kind_checks x ≡ kind_checks y
  unfolding kind_checks
  kinds_same = λ i. (5, not (eqb (alike.length_same i) sheet_length)) ∷ (12, not (eqb (alike.kind_same i) 1 || eqb (alike.kind_same i) 2)) ∷ []

  rules_same : rule_checks x ≡ rule_checks y
  unfolding rule_checks sheet_of
  rules_same =
      let first = finite_alike alike.first_alike in
      let step = finite_alike alike.step_alike in
      let alpha = finite_alike alike.alpha_alike in
      let low = below_zero_alike alike.alpha_alike in
      let high = below_one_alike alike.alpha_alike in
      let steps = not_zero_alike alike.step_alike in
      let tests : ◌≡◌ {A = ℕ → Bool} (λ t. not (within (chance (sheet_rule x) t))) (λ t. not (within (chance (sheet_rule y) t))) =
      fun_ext (λ t. ap not (within_alike (chance_alike t))) in
      λ i.
      (13, not (first i && step i && alpha i))
      ∷ (13, low i || not (high i))
      ∷ (13, eqb (alike.kind_same i) 1 && steps i)
      ∷ (13, any (tests i) (one_to (months_same i)))
      ∷ []

  weights_checked : weight_checks (sheet_of x) ≡ weight_checks (sheet_of y)
  unfolding weight_checks sheet_of
  weights_checked =
      λ i. (8, ltb S (total (all_weights_same i))) ∷ (9, tail_survivable (plan_of (alike.head_same i) (row_same i))) ∷ []

  pub refusal_same : (needed room : ℕ) → sheet_refusal x needed room ≡ sheet_refusal y needed room
  unfolding sheet_refusal sheet_checks
  refusal_same needed room =
      λ i. first (kinds_same i ++ (head_checks (alike.head_same i) ++ (rules_same i ++ weights_checked i)) ++ room_check needed room ∷ [])

  -- so both calls answer and leave the same
  number_same : (needed : Head → ℕ) (room : ℕ) → sheet_refusal x (needed (plan_head x)) room ≡ sheet_refusal y (needed (plan_head y)) room
  number_same needed room = refusal_same (needed (plan_head x)) room ∙ ap (λ h. sheet_refusal y (needed h) room) alike.head_same

  pub answer_same : (room : ℕ) → sheet_answer x room ≡ sheet_answer y room
  answer_same room = ap₂ head_answer (number_same row_length room) alike.head_same

  pub memory_same : (row : List ℕ) → sheet_row_after x row ≡ sheet_row_after y row
  memory_same row = λ i. filled_after (number_same row_length (length row) i) (row_length (alike.head_same i)) (row_same i) row

  pub plan_answer_same : (room : ℕ) → plan_answer x room ≡ plan_answer y room
  plan_answer_same room = ap₂ length_answer (number_same byte_length room) (ap byte_length alike.head_same)

  pub plan_bytes_same : (lent : List ℕ) → plan_bytes_after x lent ≡ plan_bytes_after y lent
  plan_bytes_same lent =
      λ i. filled_after (number_same byte_length (length lent) i) (byte_length (alike.head_same i)) (bytes_of (alike.head_same i) (row_same i)) lent
