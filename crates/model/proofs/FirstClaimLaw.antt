-- Unrounded survival is the recursion of source document 000, Theorem 2.1.
use mathlib.Core.Path.{◌≡◌, refl, sym, ◌∙◌, ap, ap₂, fun_ext}
use mathlib.Core.List.{List, [], ◌∷◌}
use Prim.Native.Nat.{ℕ, zero, suc, ◌+◌, ◌*◌, ◌-◌, ◌^◌, ◌≤◌, ◌<◌}
use native.Mathlib.Nat.{mul-add, add-mul, mul_assoc, mul_comm, mul_left_comm, mul-mul-mul_comm, mul-one, one-mul, zero-mul, mul-sub, mul-le-mul_left, sub-add_cancel, pow-zero, pow-succ', min_comm, le_refl}
use native.Mathlib.Omega.{arith}
use lib.ListN.{length, get_or, drop, length-drop, get_or-eq_default}
use lib.Seq.{get_or-drop}
use Rattle.model.specs.declared.Question.TheVariants.{Survive}
use Rattle.model.specs.Scale.{S}
use Rattle.model.specs.Sums.{sum, product}
use Rattle.model.specs.Plan.{Plan, nth}
use Rattle.model.specs.MonthRule.{Row, claim_sum, exact_month, kept, claimed_row, month_back, values, value, rule_of, last_of, claims_of, opening_allowed}
use Rattle.model.specs.FirstClaim.{first_claim_in, some_claim, first_claim, first_claim_survival}
use Rattle.model.proofs.SumLaws.{sum_ext, product_ext, sum_cut, sum_times, pow_two_more}
use Rattle.model.proofs.Month.{claim_sum_times}

-- the claim sum as the theorem prints it: the weights above m are 0
claim_sum_printed : (F : List ℕ) (Y : Row) (r : ℕ) → sum (r - 1) (λ x. nth F x * Y (r - x)) ≡ claim_sum F Y r
unfolding claim_sum nth
claim_sum_printed F Y r =
    sum_cut (length F) (r - 1) (λ x. nth F x * Y (r - x)) (λ i l. rw (get_or-eq_default F 0 l) (zero-mul (Y (r - suc i))))
    ∙ ap (λ (n : ℕ). sum n (λ x. nth F x * Y (r - x))) (min_comm (length F) (r - 1))

-- the chance that the first claim comes in a later month, with the first month split off
first_claim_later : (P : ℕ) (Ps : List ℕ) (i : ℕ) → first_claim_in (P ∷ Ps) (suc (suc i)) ≡ (S - P) * first_claim_in Ps (suc i)
unfolding first_claim_in nth product
first_claim_later P Ps i =
    ap (λ (n : ℕ). get_or Ps i 0 * product n (λ j. S - nth (P ∷ Ps) j)) two
    ∙ (rw (one, product_ext i (λ j. S - nth (P ∷ Ps) (suc j)) (λ j. S - nth Ps j) (λ j. refl))
    (mul_left_comm (get_or Ps i 0) (S - P) (product i (λ j. S - nth Ps j))))
  where
    two : suc (suc i) - 1 ≡ suc i
    two = omega arith

    one : suc i - 1 ≡ i
    one = omega arith

first_claim_first : (P : ℕ) (Ps : List ℕ) → first_claim_in (P ∷ Ps) 1 ≡ P
unfolding first_claim_in nth product
first_claim_first P Ps = mul-one P

-- The theorem's right side over any values L t u' after a first claim in month t that leaves u': the sum over the months …
claimed : List ℕ → List ℕ → (ℕ → Row) → ℕ → ℕ
claimed F Ps L u =
    sum (length Ps) (λ t. first_claim_in Ps t * sum (u + t - 1) (λ x. nth F x * L t (u + t - x)) * S ^ (t - 1))

-- … and the last term is `no_claim`. Both with the first month split off:
claimed_month :
    (F : List ℕ) (P : ℕ) (Ps : List ℕ) (L : ℕ → Row) (u : ℕ) →
    claimed F (P ∷ Ps) L u ≡ P * claim_sum F (L 1) (u + 1) + (S - P) * S * claimed F Ps (λ t. L (suc t)) (u + 1)
unfolding claimed sum
claimed_month F P Ps L u =
    ap₂ (λ (a b : ℕ). a + b) first
    (sum_ext (length Ps) _ (λ t. (S - P) * S * term t) later ∙ sum_times (length Ps) ((S - P) * S) term)
  where
    term : ℕ → ℕ
    term t = first_claim_in Ps t * sum (u + 1 + t - 1) (λ x. nth F x * L (suc t) (u + 1 + t - x)) * S ^ (t - 1)

    first : first_claim_in (P ∷ Ps) 1 * sum (u + 1 - 1) (λ x. nth F x * L 1 (u + 1 - x)) * S ^ (1 - 1) ≡ P * claim_sum F (L 1) (u + 1)
    first = rw (first_claim_first P Ps, claim_sum_printed F (L 1) (u + 1), pow-zero S) (mul-one (P * claim_sum F (L 1) (u + 1)))

    level : (i : ℕ) → u + suc (suc i) ≡ u + 1 + suc i
    level i = omega arith

    one_more : (i : ℕ) → S ^ (suc (suc i) - 1) ≡ S * S ^ (suc i - 1)
    one_more i = ap (λ (e : ℕ). S ^ e) (omega arith) ∙ pow-succ' S (suc i - 1)

    claims : ℕ → ℕ
    claims i = sum (u + 1 + suc i - 1) (λ x. nth F x * L (suc (suc i)) (u + 1 + suc i - x))

    later :
        (i : ℕ) → i < length Ps →
        first_claim_in (P ∷ Ps) (suc (suc i)) * sum (u + suc (suc i) - 1) (λ x. nth F x * L (suc (suc i)) (u + suc (suc i) - x)) * S ^ (suc (suc i) - 1)
        ≡ (S - P) * S * term (suc i)
    later i l =
        rw (first_claim_later P Ps i, level i, one_more i)
        (rw (mul_assoc (S - P) (first_claim_in Ps (suc i)) (claims i)) (mul-mul-mul_comm (S - P) (first_claim_in Ps (suc i) * claims i) S (S ^ (suc i - 1))))

some_claim_month :
    (P : ℕ) (Ps : List ℕ) → some_claim (P ∷ Ps) ≡ P * (S * S ^ (2 * length Ps)) + (S - P) * S * some_claim Ps
unfolding some_claim sum
some_claim_month P Ps =
    ap₂ (λ (a b : ℕ). a + b) first (sum_ext n _ (λ t. (S - P) * S * term t) later ∙ sum_times n ((S - P) * S) term)
  where
    n : ℕ
    n = length Ps

    term : ℕ → ℕ
    term t = first_claim_in Ps t * S ^ (2 * n - t)

    one_less : S ^ (2 * suc n - 1) ≡ S * S ^ (2 * n)
    one_less = ap (λ (e : ℕ). S ^ e) (omega arith) ∙ pow-succ' S (2 * n)

    first : first_claim_in (P ∷ Ps) 1 * S ^ (2 * suc n - 1) ≡ P * (S * S ^ (2 * n))
    first = rw (first_claim_first P Ps, one_less)

    exponent : (i : ℕ) → i < n → 2 * suc n - suc (suc i) ≡ suc (2 * n - suc i)
    exponent i l = omega arith

    later : (i : ℕ) → i < n → first_claim_in (P ∷ Ps) (suc (suc i)) * S ^ (2 * suc n - suc (suc i)) ≡ (S - P) * S * term (suc i)
    later i l =
        rw (first_claim_later P Ps i, ap (λ (e : ℕ). S ^ e) (exponent i l) ∙ pow-succ' S (2 * n - suc i))
        (mul-mul-mul_comm (S - P) (first_claim_in Ps (suc i)) S (S ^ (2 * n - suc i)))

-- the chance that a claim comes is at most 1
pub some_claim_fits : (Ps : List ℕ) → ((i : ℕ) → get_or Ps i 0 ≤ S) → some_claim Ps ≤ S ^ (2 * length Ps)
unfolding some_claim sum
some_claim_fits [] hP = rw (pow-zero S) (omega arith)
some_claim_fits (P ∷ Ps) hP =
    rw (some_claim_month P Ps, pow_two_more S (length Ps))
    (omega (
      arith,
      mul-le-mul_left ((S - P) * S) (some_claim_fits Ps (λ i. hP (suc i))),
      mul_assoc (S - P) S (S ^ (2 * length Ps)),
      add-mul (S - P) P (S * S ^ (2 * length Ps)),
      ap (λ (y : ℕ). y * (S * S ^ (2 * length Ps))) (sub-add_cancel (hP 0)),
    ))

-- 1 less that sum, multiplied by S^(2n)
no_claim : List ℕ → ℕ
no_claim Ps = S ^ (2 * length Ps) - some_claim Ps

no_claim_month : (P : ℕ) → P ≤ S → (Ps : List ℕ) → no_claim (P ∷ Ps) ≡ (S - P) * S * no_claim Ps
unfolding no_claim
no_claim_month P hP Ps =
    rw (some_claim_month P Ps, pow_two_more S (length Ps), mul-sub ((S - P) * S) (S ^ (2 * length Ps)) (some_claim Ps))
    (omega (
      arith,
      mul_assoc (S - P) S (S ^ (2 * length Ps)),
      add-mul (S - P) P (S * S ^ (2 * length Ps)),
      ap (λ (y : ℕ). y * (S * S ^ (2 * length Ps))) (sub-add_cancel hP),
    ))

-- The last term is the product of the no-claim chances.
pub no_claim_is :
    (Ps : List ℕ) → ((i : ℕ) → get_or Ps i 0 ≤ S) →
    S ^ (2 * length Ps) - some_claim Ps ≡ S ^ length Ps * product (length Ps) (λ i. S - nth Ps i)
unfolding no_claim product nth some_claim sum
no_claim_is [] hP = rw (pow-zero S)
no_claim_is (P ∷ Ps) hP =
    no_claim_month P (hP 0) Ps
    ∙ ap (λ (y : ℕ). (S - P) * S * y) (no_claim_is Ps (λ i. hP (suc i)))
    ∙ sym (
    rw (pow-succ' S n, product_ext n (λ i. S - nth (P ∷ Ps) (suc i)) (λ i. S - nth Ps i) (λ i. refl))
    (mul-mul-mul_comm S (S ^ n) (S - P) quiet ∙ ap (λ (y : ℕ). y * (S ^ n * quiet)) (mul_comm S (S - P)))
    )
  where
    n : ℕ
    n = length Ps

    quiet : ℕ
    quiet = product n (λ i. S - nth Ps i)

-- unrounded survival over the chances of the months to come, with the theorem's income of 1
survival : List ℕ → List ℕ → Row
survival F Ps = values (exact_month 1 F) (rule_of Survive) (last_of Survive) Ps 0

survival_month : (F : List ℕ) (P : ℕ) (Ps : List ℕ) (u : ℕ) → survival F (P ∷ Ps) u ≡ (S - P) * S * survival F Ps (u + 1) + P * claim_sum F (survival F Ps) (u + 1)
unfolding survival values month_back rule_of kept claimed_row exact_month
survival_month F P Ps u = refl

-- where the values after a first claim are survival, the theorem's right side is survival
form_is_survival :
    (F Ps : List ℕ) → ((i : ℕ) → get_or Ps i 0 ≤ S) →
    (L : ℕ → Row) → ((i v : ℕ) → L (suc i) v * S ≡ survival F (drop (suc i) Ps) v) →
    (u : ℕ) → (claimed F Ps L u + no_claim Ps) * S ≡ survival F Ps u
unfolding claimed no_claim some_claim sum survival values last_of
form_is_survival F [] hP L h u = rw (pow-zero S) (one-mul S)
form_is_survival F (P ∷ Ps) hP L h u =
    rw (
      claimed_month F P Ps L u,
      no_claim_month P (hP 0) Ps,
      survival_month F P Ps u,
      ← form_is_survival F Ps (λ i. hP (suc i)) (λ t. L (suc t)) (λ i v. h (suc i) v) (u + 1),
      ← fun_ext (h 0),
      ← claim_sum_times F (L 1) S (u + 1),
    )
    (simp (add-mul, mul-add, mul_assoc) (omega arith))

first_claim_is :
    (F : List ℕ) (turns : ℕ) (Ps : List ℕ) → length Ps ≤ turns → ((i : ℕ) → get_or Ps i 0 ≤ S) →
    (u : ℕ) → first_claim turns F Ps u * S ≡ survival F Ps u
unfolding first_claim claimed no_claim survival values last_of
first_claim_is F zero [] l hP u = one-mul S
first_claim_is F zero (P ∷ Ps) l hP u = absurd (omega arith)
first_claim_is F (suc turns) Ps l hP u =
    form_is_survival F Ps hP (λ t. first_claim turns F (drop t Ps))
    (λ i. first_claim_is F turns (drop (suc i) Ps) (shorter i) (λ j. rw get_or-drop (hP (suc i + j))))
    u
  where
    shorter : (i : ℕ) → length (drop (suc i) Ps) ≤ turns
    shorter i = rw length-drop (omega arith)

-- Theorem 2.1, both sides multiplied by S^(2n) and the rule's value in parts of S. Document 02: it "is for c = 1 alone".
pub survive_is_first_claim :
    (p : Plan) → p.income ≡ 1 → ((i : ℕ) → get_or p.chances i 0 ≤ S) → value (exact_month p.income p.severity) p Survive ≡ first_claim_survival p * S
unfolding value opening_allowed claims_of kept first_claim_survival survival
survive_is_first_claim p one hP = rw one (sym (first_claim_is p.severity (length p.chances) p.chances (le_refl _) hP p.opening))
