-- What a caller of reading knows: the number that it answers, and where that is none the plan's head, and its row at the start of the row read.
use Prim.Native.Nat.{ℕ}
use mathlib.Core.Path.{◌≡◌, sym, ap, ◌∙◌}
use mathlib.Core.List.{List}
use lib.ListN.{length, take, replicate, length-replicate}
use lib.Seq.{take_at}
use Rattle.std.specs.Prelude.{Ok, Err}
use Rattle.model.specs.declared.refusal.Refusal.{Refusal}
use Rattle.model.specs.Limits.{row_room}
use Rattle.model.specs.Plan.{row_length}
use Rattle.model.specs.Format.{head_of, row_of}
use Rattle.model.specs.Refusal.{Accepted, refusal_number, read_refusal}
use Rattle.codec.specs.declared.BytePlan.{BytePlan}
use Rattle.codec.specs.Answers.{ReadAnswer, PlanAnswer, plan_result, no_head, read_answer, row_after, byte_plan}
use Rattle.codec.proofs.Answered.{head_number, head_answered}
use Rattle.model.proofs.MemoryLaws.{filled, kept}
use Rattle.plan_bits.proofs.RefusalLaws.{readable, row_is}

-- what reading leaves in the row is the plan's row, and the rest
pub row_left : (bytes row : List ℕ) → read_refusal bytes (length row) ≡ 0 → take (row_length (head_of bytes)) (row_after bytes row) ≡ row_of bytes
row_left bytes row none = rw (filled _ (row_length (head_of bytes)) (row_of bytes) row none) (take_at (row_of bytes) _ _ (row_is bytes))

-- what is read into a blank row, and what a refused plan leaves
pub plan_is :
    (bytes row left : List ℕ) (a : ReadAnswer) → row ≡ replicate row_room 0 → row_room ≡ length row → a ≡ read_answer bytes (length row) → left ≡ row_after bytes row →
    ◌≡◌ {A = PlanAnswer} (record { refusal = a.refusal; head = a.head; row = left }) (byte_plan bytes)
unfolding byte_plan
plan_is bytes row left a blank size answered read = rw (answered, ← size, read, blank)

pub plan_refused :
    (bytes row : List ℕ) (n : ℕ) → row ≡ replicate row_room 0 → row_room ≡ length row → (n ≡ 0 → ⊥) → record { refusal = n; head = no_head } ≡ read_answer bytes (length row) →
    ◌≡◌ {A = PlanAnswer} (record { refusal = n; head = no_head; row = replicate row_room 0 }) (byte_plan bytes)
plan_refused bytes row n blank size refused answered =
    let number : n ≡ read_refusal bytes (length row) = ap (λ (a : ReadAnswer). a.refusal) answered ∙ head_number _ _ in
    plan_is bytes row (replicate row_room 0) (record { refusal = n; head = no_head }) blank size answered
    (sym blank ∙ sym (kept _ _ _ _ (λ z. refused (number ∙ z))))

pub record PlanRead (bytes : List ℕ) (plan : BytePlan) : Type 0 where
  pub none : read_refusal bytes row_room ≡ 0
  pub accepted : Accepted (head_of bytes) (row_of bytes)
  pub head : plan.head ≡ head_of bytes
  pub row : take (row_length (head_of bytes)) plan.row ≡ row_of bytes

module _ (bytes : List ℕ) where
  pub read_number : (byte_plan bytes).refusal ≡ read_refusal bytes row_room
  unfolding byte_plan
  read_number = head_number _ _

  pub plan_read : {plan : BytePlan} → plan_result (Ok plan) ≡ byte_plan bytes → PlanRead bytes plan
  unfolding byte_plan
  plan_read is =
      let none : read_refusal bytes row_room ≡ 0 = sym (ap (λ (p : PlanAnswer). p.refusal) is ∙ read_number) in
      let blank : List ℕ = replicate row_room 0 in
      let here : read_refusal bytes (length blank) ≡ 0 = ap (read_refusal bytes) (length-replicate {A = ℕ} row_room 0) ∙ none in
      record {
        none = none;
        accepted = (readable _ _ none).accepted;
        head = ap (λ (p : PlanAnswer). p.head) is ∙ ap (λ (a : ReadAnswer). a.head) (head_answered _ _ none);
        row = ap (λ (p : PlanAnswer). take (row_length (head_of bytes)) p.row) is ∙ row_left bytes (replicate row_room 0) here;
      }

  pub plan_unread : (r : Refusal) → plan_result (Err r) ≡ byte_plan bytes → refusal_number r ≡ read_refusal bytes row_room
  plan_unread r is = ap (λ (p : PlanAnswer). p.refusal) is ∙ read_number
