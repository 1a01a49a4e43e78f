-- The weight of the histories that keep a condition, with the first month split off; all histories together.
use mathlib.Core.Path.{◌≡◌, refl, sym, ◌∙◌, ap, fun_ext}
use mathlib.Core.Bool.{Bool, true, false, cond, not, ◌&&◌}
use mathlib.Core.List.{List, [], ◌∷◌, map, map-map, map-append, flat_map, zip_with}
use Prim.Native.Nat.{ℕ, suc, ◌+◌, ◌*◌, ◌-◌, ◌^◌, ◌≤◌}
use native.Mathlib.Nat.{mul-zero, mul_assoc, mul-add, add-mul, sub-add_cancel, add-zero, zero-add, pow-zero}
use native.Mathlib.Numerals.{one-add}
use native.Mathlib.Omega.{arith}
use lib.ListN.{length, get_or}
use Rattle.model.specs.Scale.{S}
use Rattle.model.specs.Sums.{sum, total, one_to, count}
use Rattle.model.specs.Plan.{Plan, nth}
use Rattle.model.specs.History.{Event, no_claim, claim, tail_claim, History, events, histories, event_weight, history_weight, is_claim, claims}
use Rattle.model.specs.Exact.{weight_of}
use Rattle.model.proofs.SumLaws.{total_append, total_map_times, total_map_plus, total_one_to, sum_times, sum_nth_times, pow_two_more}

-- a plan with these severities, tail and chances; the weight of histories does not look at the opening and the income
abbrev plan_with : List ℕ → ℕ → List ℕ → Plan
plan_with F tail Ps = record { opening = 0; income = 0; chances = Ps; severity = F; tail = tail }

-- the weight over histories of a condition on them
abbrev pub weigh : List ℕ → ℕ → List ℕ → (History → Bool) → ℕ
weigh F tail Ps = weight_of (plan_with F tail Ps)

pub weight_is : (p : Plan) (C : History → Bool) → weight_of p C ≡ weigh p.severity p.tail p.chances C
unfolding weight_of history_weight
weight_is p C = refl

total_flatMap :
    {A B : Type 0} (f : B → ℕ) (g : A → List B) (xs : List A) → total (map f (flat_map g xs)) ≡ total (map (λ x. total (map f (g x))) xs)
unfolding flat_map total
total_flatMap f g [] = refl
total_flatMap f g (x ∷ xs) =
    ap total (map-append f (g x) (flat_map g xs)) ∙ total_append (map f (g x)) (map f (flat_map g xs)) ∙ ap (λ (y : ℕ). total (map f (g x)) + y) (total_flatMap f g xs)

pub claims_quiet : (h : History) → claims (no_claim ∷ h) ≡ claims h
unfolding claims count is_claim
claims_quiet h = zero-add (claims h)

pub claims_more : (e : Event) (h : History) → is_claim e ≡ true → claims (e ∷ h) ≡ suc (claims h)
unfolding claims count
claims_more e h c = rw c (one-add (claims h))

cond_times : (b : Bool) (k a : ℕ) → cond b (k * a) 0 ≡ k * cond b a 0
cond_times true k a = refl
cond_times false k a = sym (mul-zero k)

total_zeros : {A : Type 0} (xs : List A) → total (map (λ x. 0) xs) ≡ 0
unfolding total
total_zeros [] = refl
total_zeros (x ∷ xs) = omega (arith, total_zeros xs)

module _ (F : List ℕ) (tail : ℕ) where
  pub weigh_end : (C : History → Bool) → weigh F tail [] C ≡ cond (C []) 1 0
  unfolding weight_of histories history_weight zip_with total
  weigh_end C = add-zero _

  -- the first month split off, for any condition
  pub weigh_month :
      (P : ℕ) (Ps : List ℕ) (C : History → Bool) →
      weigh F tail (P ∷ Ps) C ≡ total (map (λ e. event_weight F tail P e * weigh F tail Ps (λ h. C (e ∷ h))) (events (length F)))
  unfolding weight_of histories history_weight zip_with
  weigh_month P Ps C =
      total_flatMap kept (λ e. map (λ h. e ∷ h) shorter) (events (length F))
      ∙ ap (λ (f : Event → ℕ). total (map f (events (length F)))) (fun_ext first)
    where
      shorter : List History
      shorter = histories (length F) (length Ps)

      kept : History → ℕ
      kept h = cond (C h) (history_weight (plan_with F tail (P ∷ Ps)) h) 0

      later : Event → History → ℕ
      later e h = cond (C (e ∷ h)) (history_weight (plan_with F tail Ps) h) 0

      first : (e : Event) → total (map kept (map (λ h. e ∷ h) shorter)) ≡ event_weight F tail P e * total (map (later e) shorter)
      first e =
          ap total (map-map kept (λ h. e ∷ h) shorter)
          ∙ ap (λ (f : History → ℕ). total (map f shorter)) (fun_ext (λ h. cond_times (C (e ∷ h)) (event_weight F tail P e) (history_weight (plan_with F tail Ps) h)))
          ∙ total_map_times (event_weight F tail P e) (later e) shorter

  -- the same by what the first month brings
  pub weigh_split :
      (P : ℕ) (Ps : List ℕ) (C : History → Bool) →
      weigh F tail (P ∷ Ps) C
      ≡ (S - P) * S * weigh F tail Ps (λ h. C (no_claim ∷ h))
      + (P * tail * weigh F tail Ps (λ h. C (tail_claim ∷ h))
      + P * sum (length F) (λ x. nth F x * weigh F tail Ps (λ h. C (claim x ∷ h))))
  unfolding events event_weight total
  weigh_split P Ps C =
      weigh_month P Ps C
      ∙ ap (λ (y : ℕ). (S - P) * S * weigh F tail Ps (λ h. C (no_claim ∷ h)) + (P * tail * weigh F tail Ps (λ h. C (tail_claim ∷ h)) + y)) claims
    where
      one : Event → ℕ
      one e = event_weight F tail P e * weigh F tail Ps (λ h. C (e ∷ h))

      claims : total (map one (map claim (one_to (length F)))) ≡ P * sum (length F) (λ x. nth F x * weigh F tail Ps (λ h. C (claim x ∷ h)))
      claims =
          ap total (map-map one claim (one_to (length F)))
          ∙ total_one_to (length F) (λ x. one (claim x))
          ∙ ap (λ (f : ℕ → ℕ). sum (length F) f) (fun_ext (λ x. mul_assoc P (nth F x) (weigh F tail Ps (λ h. C (claim x ∷ h)))))
          ∙ sum_times (length F) P (λ x. nth F x * weigh F tail Ps (λ h. C (claim x ∷ h)))

  -- nothing keeps a condition that never holds
  pub weigh_none : (Ps : List ℕ) → weigh F tail Ps (λ h. false) ≡ 0
  unfolding weight_of
  weigh_none Ps = total_zeros (histories (length F) (length Ps))

  -- conditions that agree on every history of so many months
  pub weigh_same :
      (Ps : List ℕ) (C D : History → Bool) → ((h : History) → length h ≡ length Ps → C h ≡ D h) → weigh F tail Ps C ≡ weigh F tail Ps D
  weigh_same [] C D same = weigh_end C ∙ ap (λ (b : Bool). cond b 1 0) (same [] refl) ∙ sym (weigh_end D)
  weigh_same (P ∷ Ps) C D same =
      weigh_month P Ps C
      ∙ ap (λ (f : Event → ℕ). total (map (λ e. event_weight F tail P e * f e) (events (length F))))
      (fun_ext (λ e. weigh_same Ps (λ h. C (e ∷ h)) (λ h. D (e ∷ h)) (λ h l. same (e ∷ h) (ap suc l))))
      ∙ sym (weigh_month P Ps D)

  -- the histories that keep a condition, split by another
  pub weigh_either :
      (Ps : List ℕ) (C D : History → Bool) → weigh F tail Ps (λ h. C h && not (D h)) + weigh F tail Ps (λ h. C h && D h) ≡ weigh F tail Ps C
  unfolding weight_of
  weigh_either Ps C D =
      total_map_plus (λ h. cond (C h && not (D h)) (w h) 0) (λ h. cond (C h && D h) (w h) 0) (histories (length F) (length Ps))
      ∙ ap (λ (f : History → ℕ). total (map f (histories (length F) (length Ps)))) (fun_ext (λ h. go (C h) (D h) (w h)))
    where
      w : History → ℕ
      w = history_weight (plan_with F tail Ps)

      go : (c d : Bool) (a : ℕ) → cond (c && not d) a 0 + cond (c && d) a 0 ≡ cond c a 0
      go true true a = zero-add a
      go true false a = add-zero a
      go false d a = refl

  -- a claim of any size, over included, weighs its month's chance times S
  pub claims_weigh : total F + tail ≡ S → (P w : ℕ) → P * tail * w + P * (total F * w) ≡ P * (S * w)
  claims_weigh hF P w =
      omega (
        arith,
        mul_assoc P tail w,
        mul-add P (total F * w) (tail * w),
        ap (λ (y : ℕ). P * y) (sym (add-mul (total F) tail w) ∙ ap (λ (y : ℕ). y * w) hF),
      )

  -- "All histories together weigh S^(2n)."
  pub weigh_all :
      total F + tail ≡ S → (Ps : List ℕ) → ((i : ℕ) → get_or Ps i 0 ≤ S) → weigh F tail Ps (λ h. true) ≡ S ^ (2 * length Ps)
  weigh_all hF [] h = weigh_end (λ h. true) ∙ sym (pow-zero S)
  weigh_all hF (P ∷ Ps) h =
      weigh_split P Ps (λ h. true)
      ∙ ap (λ (y : ℕ). (S - P) * S * w + (P * tail * w + P * y)) (sum_nth_times F w)
      ∙ whole
      ∙ ap (λ (y : ℕ). S * (S * y)) (weigh_all hF Ps (λ i. h (suc i)))
      ∙ sym (pow_two_more S (length Ps))
    where
      w : ℕ
      w = weigh F tail Ps (λ h. true)

      whole : (S - P) * S * w + (P * tail * w + P * (total F * w)) ≡ S * (S * w)
      whole =
          omega (
            arith,
            mul_assoc (S - P) S w,
            claims_weigh hF P w,
            add-mul (S - P) P (S * w),
            ap (λ (y : ℕ). y * (S * w)) (sub-add_cancel (h 0)),
          )
