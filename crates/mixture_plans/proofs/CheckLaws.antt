-- The checks of a mixture in their order, and what is known of one that they pass.
use Prim.Native.Nat.{ℕ, suc, ◌≤◌}
use mathlib.Core.Path.{◌≡◌, refl, sym, ap, ◌∙◌}
use mathlib.Core.Bool.{Bool, true, false, not, ◌&&◌, ◌||◌, cond}
use mathlib.Core.List.{List, [], ◌∷◌, ◌++◌, map, zip_with, flat_map}
use native.Mathlib.Omega.{arith}
use lib.Dec.{ltb, eqb}
use lib.ListN.{length, drop, length-map}
use lib.Seq.{length-take-le}
use borrow.Author.Tests.{eqb-true, eqb-false, ne_eqb, ltb-false, le-ltb, not-false}
use Rattle.model.specs.declared.Head.{Head}
use Rattle.model.specs.declared.Question.{Question}
use Rattle.model.specs.Limits.{max_plans}
use Rattle.model.specs.Scale.{S}
use Rattle.model.specs.Sums.{total, all}
use Rattle.model.specs.Plan.{Plan}
use Rattle.model.specs.Refusal.{first, plan_checks, HeadAccepted, outside, workspace_needed}
use Rattle.model.proofs.Facts.{numbered, first_append, plan_numbered, none_fits, none_fits_append, neither, not_zero, accepted_head}
use Rattle.mixture_plans.specs.declared.Mixture.{Mixture}
use Rattle.mixture_plans.specs.Components.{weights_of, plans_of, unlike, mixture_check}
use Rattle.mixture_plans.specs.Rows.{HeadRow, plan_at, plan_rows, heads_used, weights_used, rows_of, plans_in, weighed, components_of}
use Rattle.mixture_plans.proofs.RowLaws.{Next}
use Rattle.mixture_plans.proofs.AlikeLaws.{first_next}
use Rattle.mixture_plans.specs.Refusal.{plans_head, count_outside, Counted, each_checks, mixture_checks, mixture_refusal, MixtureAccepted, ask_of_one, mixture_ask_refusal}

-- the length of a list whose elements are mapped, as owning an array of structs tells it
pub mapped_length : {A B : Type 0} (f : A → B) (xs : List A) (n : ℕ) → length (map f xs) ≡ n → length xs ≡ n
mapped_length f xs n e = sym (length-map xs f) ∙ e

-- there are as many rows as heads, …
pub rows_many : (hs : List Head) (row : List ℕ) → length (plan_rows hs row) ≡ length hs
unfolding plan_rows
rows_many [] row = refl
rows_many (h ∷ []) row = refl
rows_many (h ∷ h' ∷ hs) row = ap suc (rows_many (h' ∷ hs) _)

-- … and where there are as many weights, each stays
pub weighed_weights : (ws : List ℕ) (rs : List HeadRow) → length ws ≡ length rs → weights_of (weighed ws rs) ≡ ws
unfolding weighed zip_with
weighed_weights [] [] e = refl
weighed_weights [] (r ∷ rs) e = absurd (omega (arith, e))
weighed_weights (w ∷ ws) [] e = absurd (omega (arith, e))
weighed_weights (w ∷ ws) (r ∷ rs) e = ap (λ (xs : List ℕ). w ∷ xs) (weighed_weights ws rs (omega (arith, e)))

pub weighed_plans : (ws : List ℕ) (rs : List HeadRow) → length ws ≡ length rs → plans_of (weighed ws rs) ≡ map plan_at rs
unfolding weighed zip_with
weighed_plans [] [] e = refl
weighed_plans [] (r ∷ rs) e = absurd (omega (arith, e))
weighed_plans (w ∷ ws) [] e = absurd (omega (arith, e))
weighed_plans (w ∷ ws) (r ∷ rs) e = ap (λ (ps : List Plan). plan_at r ∷ ps) (weighed_plans ws rs (omega (arith, e)))

module _ (m : Mixture) (row : List ℕ) (known : Counted m) where
  same_many : length (weights_used m) ≡ length (rows_of m row)
  same_many =
      length-take-le m.count m.weights (omega (arith, known.fits, known.weights_long))
      ∙ sym (rows_many (heads_used m) row ∙ length-take-le m.count m.heads (omega (arith, known.fits, known.heads_long)))

  pub weights_are : weights_of (components_of m row) ≡ weights_used m
  unfolding components_of
  weights_are = weighed_weights (weights_used m) (rows_of m row) same_many

  pub plans_are : plans_of (components_of m row) ≡ plans_in m row
  unfolding components_of
  plans_are = weighed_plans (weights_used m) (rows_of m row) same_many

-- a count that is within the limits
pub counted : (m : Mixture) → count_outside m.count ≡ false → length m.heads ≡ max_plans → length m.weights ≡ max_plans → Counted m
unfolding count_outside
counted m e heads weights =
    let parts = neither (eqb m.count 0) (ltb max_plans m.count) e in
    record { some = not_zero (eqb-false _ _ parts.0); fits = ltb-false _ _ parts.1; heads_long = heads; weights_long = weights }

-- no check of a plan has the number 0
all_both : (xs ys : List (ℕ × Bool)) → numbered xs ≡ true → numbered ys ≡ true → numbered (xs ++ ys) ≡ true
unfolding all
all_both [] ys ex ey = ey
all_both (x ∷ xs) ys ex ey = go (ltb 0 x.0) ex (λ e. all_both xs ys e ey)
  where
    go : (b : Bool) → b && numbered xs ≡ true → (numbered xs ≡ true → numbered (xs ++ ys) ≡ true) → b && numbered (xs ++ ys) ≡ true
    go true e later = later e
    go false e later = e

each_numbered : (rows : List HeadRow) → numbered (each_checks rows) ≡ true
unfolding each_checks flat_map all
each_numbered [] = refl
each_numbered (r ∷ rows) = all_both (plan_checks r.0 r.1) (each_checks rows) (plan_numbered r.0 r.1) (each_numbered rows)

module _ (m : Mixture) (row : List ℕ) where
  pub by_count : count_outside m.count ≡ true → mixture_refusal m row ≡ 18
  unfolding mixture_refusal mixture_checks first
  by_count e = rw e

  module _ (e : count_outside m.count ≡ false) where
    pub by_rows :
        mixture_refusal m row
        ≡ cond (eqb (first (each_checks (rows_of m row))) 0) (first (mixture_check (components_of m row) ∷ [])) (first (each_checks (rows_of m row)))
    unfolding mixture_refusal mixture_checks first
    by_rows = rw e (first_append (each_checks (rows_of m row)) _ (each_numbered (rows_of m row)))

    pub by_each : (n : ℕ) → n ≡ first (each_checks (rows_of m row)) → (n ≡ 0 → ⊥) → n ≡ mixture_refusal m row
    by_each n en ne = sym (by_rows ∙ (rw (← en, ne_eqb n 0 ne)))

    module _ (known : Counted m) (each : first (each_checks (rows_of m row)) ≡ 0) where
      by_both : mixture_refusal m row ≡ cond (unlike (plans_in m row) || not (eqb (total (weights_used m)) S)) 18 0
      unfolding first mixture_check
      by_both = by_rows ∙ (rw (each, weights_are m row known, plans_are m row known))

      pub by_unlike : (r : Bool) → r ≡ unlike (plans_in m row) → r ≡ true → 18 ≡ mixture_refusal m row
      by_unlike r told e = sym (by_both ∙ (rw (sym told ∙ e)))

      pub by_weights : (r : Bool) → r ≡ unlike (plans_in m row) → r ≡ false → (w : Bool) → w ≡ eqb (total (weights_used m)) S → cond w 0 18 ≡ mixture_refusal m row
      by_weights r told e true told' = sym (by_both ∙ (rw (sym told ∙ e, sym told')))
      by_weights r told e false told' = sym (by_both ∙ (rw (sym told ∙ e, sym told')))

-- What is known of a mixture that is accepted.
pub record MixtureFacts (m : Mixture) (row : List ℕ) : Type 0 where
  pub known : Counted m
  pub each : first (each_checks (rows_of m row)) ≡ 0
  pub all_alike : unlike (plans_in m row) ≡ false
  pub weights_add : total (weights_used m) ≡ S

pub mixture_facts : (m : Mixture) (row : List ℕ) → length m.heads ≡ max_plans → length m.weights ≡ max_plans → MixtureAccepted m row → MixtureFacts m row
unfolding mixture_refusal mixture_checks mixture_check
mixture_facts m row heads weights e =
    let count = none_fits _ _ _ e in
    let known = counted m count.0 heads weights in
    let parts = none_fits_append (each_checks (rows_of m row)) _ (each_numbered (rows_of m row)) count.1 in
    let last = none_fits _ _ _ parts.1 in
    let both = neither (unlike (plans_of (components_of m row))) _ last.0 in
    record {
      known = known;
      each = parts.0;
      all_alike = ap unlike (sym (plans_are m row known)) ∙ both.0;
      weights_add = ap total (sym (weights_are m row known)) ∙ eqb-true _ _ (not-false _ both.1);
    }

-- the first plan's head is accepted, since there is one
pub first_plan : (m : Mixture) (row : List ℕ) → MixtureFacts m row → Next (plans_head m) (drop 1 (heads_used m)) row
first_plan m row f =
    first_next m.heads row m.count _ (omega (arith, f.known.fits, f.known.heads_long)) f.known.some f.each

pub head_accepted : (m : Mixture) (row : List ℕ) → MixtureFacts m row → HeadAccepted (plans_head m)
head_accepted m row f = accepted_head _ _ (first_plan m row f).accepted

-- Asking: what comes after the mixture's own checks counts where it is accepted
mixture_numbered : (m : Mixture) (row : List ℕ) → numbered (mixture_checks m row) ≡ true
unfolding mixture_checks mixture_check all
mixture_numbered m row = all_both (each_checks (rows_of m row)) _ (each_numbered (rows_of m row)) refl

module _ (m : Mixture) (q : Question) (row : List ℕ) (room : ℕ) where
  pub ask_checks :
      mixture_ask_refusal m q row room
      ≡ cond (eqb (mixture_refusal m row) 0) (cond (outside q) 10 (cond (ltb room (workspace_needed (ask_of_one m q))) 11 0)) (mixture_refusal m row)
  unfolding mixture_ask_refusal mixture_refusal first
  ask_checks = first_append (mixture_checks m row) _ (mixture_numbered m row)

  pub ask_refused : (n : ℕ) → n ≡ mixture_refusal m row → (n ≡ 0 → ⊥) → n ≡ mixture_ask_refusal m q row room
  ask_refused n e ne = sym (ask_checks ∙ (rw (← e, ne_eqb n 0 ne)))

  module _ (accepted : MixtureAccepted m row) where
    pub ask_outside : (n : ℕ) → n ≡ cond (outside q) 10 0 → (n ≡ 0 → ⊥) → n ≡ mixture_ask_refusal m q row room
    ask_outside n e ne = go (outside q) refl
      where
        go : (o : Bool) → outside q ≡ o → n ≡ mixture_ask_refusal m q row room
        go true o = rw o at e ∙ sym (ask_checks ∙ (rw (accepted, o)))
        go false o = absurd (ne (rw o at e))

    pub ask_room : outside q ≡ false → cond (ltb room (workspace_needed (ask_of_one m q))) 11 0 ≡ mixture_ask_refusal m q row room
    ask_room e = sym (ask_checks ∙ (rw (accepted, e)))

  -- what is known of an ask that is not refused
  pub ask_passes : mixture_ask_refusal m q row room ≡ 0 → MixtureAccepted m row × ((outside q ≡ false) × (workspace_needed (ask_of_one m q) ≤ room))
  unfolding mixture_ask_refusal mixture_refusal
  ask_passes e =
      let parts = none_fits_append (mixture_checks m row) _ (mixture_numbered m row) e in
      let asked = none_fits _ _ _ parts.1 in
      (parts.0, (asked.0, ltb-false _ _ (none_fits _ _ _ asked.1).0))

  -- and what keeps an ask from being refused
  pub ask_accepted : MixtureAccepted m row → outside q ≡ false → workspace_needed (ask_of_one m q) ≤ room → mixture_ask_refusal m q row room ≡ 0
  ask_accepted accepted inside enough = ask_checks ∙ (rw (accepted, inside, le-ltb room (workspace_needed (ask_of_one m q)) enough))
