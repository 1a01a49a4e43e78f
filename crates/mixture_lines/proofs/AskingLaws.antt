-- Laws of asking an accepted mixture: what it answers, what a question leaves of the workspace, and that no line is longer than the room for one.
use Prim.Native.Nat.{ℕ, ◌≤◌}
use mathlib.Core.Path.{◌≡◌, ◌∙◌}
use mathlib.Core.Bool.{false}
use mathlib.Core.List.{List}
use native.Mathlib.Omega.{arith}
use lib.ListN.{length}
use Rattle.model.specs.declared.Question.{Question}
use Rattle.model.specs.Limits.{workspace_room}
use Rattle.model.specs.Refusal.{HeadAccepted, outside}
use Rattle.model.proofs.Rooms.{workspace_fits}
use Rattle.model.proofs.MemoryLaws.{filled}
use Rattle.engine.specs.Answers.{bounds_answer}
use Rattle.mixture_plans.specs.declared.Mixture.{Mixture}
use Rattle.mixture_plans.specs.Components.{Components}
use Rattle.mixture_plans.specs.Rows.{components_of}
use Rattle.mixture_plans.specs.Refusal.{plans_head, ask_of_one, mixture_ask_refusal}
use Rattle.mixture_plans.proofs.CheckLaws.{mixture_facts, head_accepted, ask_accepted}
use Rattle.mixture.specs.Bounds.{mixture_lower, mixture_upper}
use Rattle.mixture.specs.Answers.{mixture_answer, mixture_workspace_after}
use Rattle.report_lines.specs.Asking.{question_needs, Cleared}
use Rattle.report_lines.specs.Lines.{line_room}
use Rattle.report_lines.proofs.AskingLaws.{room_still}
use Rattle.report_lines.proofs.LineLaws.{bounds_short}
use Rattle.mixture_lines.specs.Lines.{mixture_line, MixtureAnswerable}

pub mixture_short : (cs : Components) (q : Question) → length (mixture_line cs q) ≤ line_room
unfolding mixture_line
mixture_short cs q = bounds_short q _ _

module _ {m : Mixture} {row ws : List ℕ} (a : MixtureAnswerable m row ws) where
  pub head_ok : HeadAccepted (plans_head m)
  head_ok = head_accepted m row (mixture_facts m row a.heads_long a.weights_long a.accepted)

  -- the next question can be asked
  pub answerable_still : {n : ℕ} {ws' : List ℕ} → Cleared n ws ws' → MixtureAnswerable m row ws'
  answerable_still p =
      record { accepted = a.accepted; heads_long = a.heads_long; weights_long = a.weights_long; room = room_still a.room p }

  -- one question
  module _ (q : Question) (within : outside q ≡ false) where
    needed_fits : question_needs (plans_head m) q ≤ workspace_room
    needed_fits = workspace_fits (ask_of_one m q) head_ok within

    nothing_refuses : mixture_ask_refusal m q row (length ws) ≡ 0
    nothing_refuses = ask_accepted m q row (length ws) a.accepted within (omega (arith, needed_fits, a.room))

    pub asked :
        mixture_answer m q row (length ws)
        ≡ record { refusal = 0; lower = mixture_lower (components_of m row) q; upper = mixture_upper (components_of m row) q }
    unfolding mixture_answer bounds_answer
    asked = rw nothing_refuses

    pub asked_clears : {ws' : List ℕ} → ws' ≡ mixture_workspace_after m q row ws → Cleared (question_needs (plans_head m) q) ws ws'
    asked_clears e = record { inside = needed_fits; is = e ∙ filled _ (question_needs (plans_head m) q) _ ws nothing_refuses }
