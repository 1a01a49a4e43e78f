-- Laws of the call: a mixture of one plan, or of equal plans, answers what asking the plan answers.
use Prim.{tt}
use Prim.Native.Nat.{ℕ, zero, suc, ◌≤◌}
use mathlib.Core.Path.{◌≡◌, refl, sym, ap, ◌∙◌}
use mathlib.Core.Bool.{true, false, not, cond}
use mathlib.Core.List.{List, [], ◌∷◌, ◌++◌, append_assoc, append-nil, map, flat_map, zip_with}
use native.Mathlib.Omega.{arith}
use native.Mathlib.Nat.{add-zero}
use lib.Dec.{ltb, eqb}
use lib.ListN.{length, get_or, replicate, length-replicate}
use lib.Seq.{take_at, drop_at, get_or-take}
use borrow.Author.Tests.{eq-eqb, ne_eqb, le-ltb}
use Rattle.model.specs.declared.Head.{Head}
use Rattle.model.specs.declared.Ask.{Ask}
use Rattle.model.specs.declared.Question.{Question}
use Rattle.model.specs.declared.Rounding.{Rounding}
use Rattle.model.specs.declared.Rounding.TheVariants.{Down, Up}
use Rattle.model.specs.Scale.{S}
use Rattle.model.specs.Limits.{max_plans}
use Rattle.model.specs.Sums.{total, any}
use Rattle.model.specs.Plan.{Plan, plan_of, row_length}
use Rattle.model.specs.Bounds.{bound}
use Rattle.model.specs.Refusal.{first, plan_checks, plan_refusal, outside, workspace_needed, room_check, bounds_refusal, bounds_checks, asked_checks, ask_refusal}
use Rattle.model.proofs.Facts.{plan_first}
use Rattle.engine.specs.Answers.{answer}
use Rattle.mixture_plans.specs.declared.Mixture.{Mixture}
use Rattle.mixture_plans.specs.Components.{weights_of, plans_of, alike, unlike, mixture_check}
use Rattle.mixture_plans.specs.Rows.{HeadRow, plan_at, plan_rows, heads_used, weights_used, rows_of, weighed, components_of}
use Rattle.mixture_plans.specs.Refusal.{count_outside, each_checks, mixture_refusal, plans_head}
use Rattle.mixture_plans.proofs.RowLaws.{each_next}
use Rattle.mixture_plans.proofs.AlikeLaws.{means_alike}
use Rattle.mixture_plans.proofs.CheckLaws.{weighed_weights, weighed_plans, by_rows, ask_checks}
use Rattle.mixture.specs.Bounds.{mixture_bound}
use Rattle.mixture.specs.Answers.{mixture_answer}
use Rattle.mixture.proofs.BoundLaws.{Each, equal_bounds}

-- asking one plan: its own number, or what is asked and the workspace decide
one_refusal :
    (a : Ask) (row : List ℕ) (room : ℕ) →
    ask_refusal a row room
    ≡ cond (eqb (plan_refusal a.head row) 0) (cond (outside a.question) 10 (cond (ltb room (workspace_needed a)) 11 0)) (plan_refusal a.head row)
unfolding bounds_refusal bounds_checks asked_checks first
one_refusal a row room =
    ap first (append_assoc (plan_checks a.head row) ((10, outside a.question) ∷ []) (room_check (workspace_needed a) room ∷ []))
    ∙ plan_first a.head row ((10, outside a.question) ∷ room_check (workspace_needed a) room ∷ [])

-- plans that are all the same: the first one decides for all, …
equal_each : (h : Head) (r : List ℕ) (k : ℕ) → first (each_checks (replicate (suc k) (h, r))) ≡ plan_refusal h r
unfolding each_checks flat_map first
equal_each h r zero = each_next h r [] ∙ go (plan_refusal h r)
  where
    go : (n : ℕ) → cond (eqb n 0) 0 n ≡ n
    go zero = refl
    go (suc n) = rw (ne_eqb (suc n) 0 (λ z. omega (arith, z)))
equal_each h r (suc k) = each_next h r (replicate (suc k) (h, r)) ∙ go (plan_refusal h r) (equal_each h r k)
  where
    go : (n : ℕ) → first (each_checks (replicate (suc k) (h, r))) ≡ n → cond (eqb n 0) (first (each_checks (replicate (suc k) (h, r)))) n ≡ n
    go zero e = e
    go (suc n) e = rw (ne_eqb (suc n) 0 (λ z. omega (arith, z)))

-- … none is unlike it, …
none_unlike : (p : Plan) (h : Head) (r : List ℕ) (k : ℕ) → alike p (plan_of h r) ≡ true → any (λ p'. not (alike p p')) (map plan_at (replicate k (h, r))) ≡ false
unfolding any
none_unlike p h r zero e = refl
none_unlike p h r (suc k) e = rw e (none_unlike p h r k e)

itself : (p : Plan) → alike p p ≡ true
itself p = means_alike p p (record { months = refl; opening = refl; income = refl; severity = refl; tail = refl })

-- … and each has its bounds
equal_plans : (P : Plan → Type 0) (h : Head) (r : List ℕ) → P (plan_of h r) → (ws : List ℕ) (k : ℕ) → Each P (weighed ws (replicate k (h, r)))
unfolding Each weighed zip_with
equal_plans P h r holds [] zero = tt
equal_plans P h r holds [] (suc k) = tt
equal_plans P h r holds (w ∷ ws) zero = tt
equal_plans P h r holds (w ∷ ws) (suc k) = (holds, equal_plans P h r holds ws k)

-- A mixture whose plans are all this head with this row, and whose weights add up to S.
pub record AllEqual (m : Mixture) (row : List ℕ) (h : Head) (r : List ℕ) (k : ℕ) : Type 0 where
  pub within : count_outside m.count ≡ false
  pub head : plans_head m ≡ h
  pub rows : rows_of m row ≡ replicate (suc k) (h, r)
  pub weights_many : length (weights_used m) ≡ suc k
  pub weights_add : total (weights_used m) ≡ S

module _ (m : Mixture) (row : List ℕ) (h : Head) (r : List ℕ) (k : ℕ) (e : AllEqual m row h r k) where
  components_are : components_of m row ≡ weighed (weights_used m) (replicate (suc k) (h, r))
  unfolding components_of
  components_are = ap (weighed (weights_used m)) e.rows

  many : length (weights_used m) ≡ length {A = HeadRow} (replicate (suc k) (h, r))
  many = e.weights_many ∙ sym (length-replicate {A = HeadRow} (suc k) (h, r))

  weights_stay : weights_of (components_of m row) ≡ weights_used m
  weights_stay = ap weights_of components_are ∙ weighed_weights (weights_used m) (replicate (suc k) (h, r)) many

  plans_stay : plans_of (components_of m row) ≡ map plan_at (replicate (suc k) (h, r))
  plans_stay = ap plans_of components_are ∙ weighed_plans (weights_used m) (replicate (suc k) (h, r)) many

  -- no check of the mixture fits besides the plan's
  equal_refusal : mixture_refusal m row ≡ plan_refusal h r
  unfolding mixture_check first unlike
  equal_refusal =
      by_rows m row e.within
      ∙ (rw (e.rows, equal_each h r k, weights_stay, plans_stay, e.weights_add, none_unlike (plan_of h r) h r k (itself (plan_of h r)), eq-eqb S S refl) (go (plan_refusal h r)))
    where
      go : (n : ℕ) → cond (eqb n 0) 0 n ≡ n
      go zero = refl
      go (suc n) = rw (ne_eqb (suc n) 0 (λ z. omega (arith, z)))

  equal_bound : (round : Rounding) (q : Question) → mixture_bound round (components_of m row) q ≡ bound round (plan_of h r) q
  equal_bound round q =
      equal_bounds round (components_of m row) q (bound round (plan_of h r) q)
      (rw components_are (equal_plans (λ p. bound round p q ≡ bound round (plan_of h r) q) h r refl (weights_used m) (suc k))) (ap total weights_stay ∙ e.weights_add)

  pub equal_answer : (q : Question) (room : ℕ) → mixture_answer m q row room ≡ answer (record { head = h; question = q }) r room
  unfolding mixture_answer answer
  equal_answer q room =
      rw (equal_bound Down q, equal_bound Up q, ask_checks m q row room, equal_refusal, one_refusal (record { head = h; question = q }) r room, e.head)

-- "a mix of one plan": whatever the row and the workspace, refusals included
pub single_answer :
    (h : Head) (hs : List Head) (ws row : List ℕ) (q : Question) (room : ℕ) →
    mixture_answer (record { count = 1; heads = h ∷ hs; weights = S ∷ ws }) q row room ≡ answer (record { head = h; question = q }) row room
unfolding count_outside plan_rows total
single_answer h hs ws row q room =
    equal_answer (record { count = 1; heads = h ∷ hs; weights = S ∷ ws }) row h row 0
    (record { within = refl; head = refl; rows = refl; weights_many = refl; weights_add = add-zero S }) q room

abbrev no_head : Head
no_head = record { months = 0; opening = 0; sizes = 0; income = 0 }

-- so many times the same row, end to end
unfoldable pub repeated : ℕ → List ℕ → List ℕ
repeated zero r = []
repeated (suc k) r = r ++ repeated k r

repeated_rows : (h : Head) (r : List ℕ) → length r ≡ row_length h → (k : ℕ) → plan_rows (replicate (suc k) h) (repeated (suc k) r) ≡ replicate (suc k) (h, r)
unfolding plan_rows repeated
repeated_rows h r e zero = ap (λ (xs : List ℕ). (h, xs) ∷ []) (append-nil r)
repeated_rows h r e (suc k) =
    rw (take_at r (repeated (suc k) r) (row_length h) e, drop_at r (repeated (suc k) r) (row_length h) e, repeated_rows h r e k)

-- "or of equal plans": as many heads and rows as the count says, all the same, whatever their weights are that add up to S
pub equal_answers :
    (m : Mixture) (h : Head) (r : List ℕ) (k : ℕ) → m.count ≡ suc k → suc k ≤ max_plans → heads_used m ≡ replicate (suc k) h → length (weights_used m) ≡ suc k →
    total (weights_used m) ≡ S → length r ≡ row_length h → (q : Question) (room : ℕ) →
    mixture_answer m q (repeated (suc k) r) room ≡ answer (record { head = h; question = q }) r room
unfolding count_outside
equal_answers m h r k count few heads weights add long q room =
    equal_answer m (repeated (suc k) r) h r k
    (record {
      within = rw (count, ne_eqb (suc k) 0 (λ z. omega (arith, z)), le-ltb max_plans (suc k) few);
      head = sym (get_or-take m.count m.heads 0 no_head (omega (arith, count))) ∙ ap (λ (hs : List Head). get_or hs 0 no_head) heads;
      rows = ap (λ (hs : List Head). plan_rows hs (repeated (suc k) r)) heads ∙ repeated_rows h r long k;
      weights_many = weights;
      weights_add = add;
    })
    q room
