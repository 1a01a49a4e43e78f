-- `ask` meets its contract: a refusal, or the weighted sums of the plans' bounds, divided.
use mathlib.Core.Path.{refl, sym, ap, ◌∙◌}
use native.Mathlib.Omega.{arith}
use lib.ListN.{length}
use Rattle.model.specs.declared.Rounding.TheVariants.{Down, Up}
use Rattle.model.specs.Scale.{S, quotient}
use Rattle.model.specs.Refusal.{workspace_needed}
use Rattle.model.proofs.RefusalNumbers.{handed_on}
use Rattle.engine.proofs.AnswerLaws.{refused_out, answered_out}
use Rattle.mixture_plans.specs.Rows.{components_of}
use Rattle.mixture_plans.specs.Refusal.{ask_of_one}
use Rattle.mixture_plans.proofs.CheckLaws.{MixtureFacts, mixture_facts, ask_passes}
use Rattle.mixture.specs.Bounds.{mixture_bound, EnclosesMixture}
use Rattle.mixture.specs.Sums.{Askable}
use Rattle.mixture.specs.Answers.{mixture_answer}
use Rattle.mixture.proofs.SumLaws.{sum_fits, accepted_encloses}
use Rattle.mixture.proofs.ask.Goals as goal
use Rattle.mixture.proofs.ask.Goals.{In_ok-check_ask}

pub returns-in_err-check_ask : goal.returns-in_err-check_ask
unfolding mixture_answer
returns-in_err-check_ask c =
    let a = c.args in
    let out = refused_out (EnclosesMixture (components_of a.mixture a.row.now) a.question) _ _ _ (workspace_needed (ask_of_one a.mixture a.question)) _ _ a.workspace.now
    (handed_on _ _ c.from_residual.ensures.1) c.in_err-check_ask.ensures in
    record { answered = out.0; cleared = out.1.0; encloses = out.1.1 }

-- what is known where nothing is refused
askable : (c : In_ok-check_ask) → let a = c.args in Askable a.mixture a.question a.row.now (length a.workspace.now)
askable c = record { passes = sym c.in_ok-check_ask.ensures; heads_long = omega arith; weights_long = omega arith }

facts : (c : In_ok-check_ask) → MixtureFacts c.args.mixture c.args.row.now
facts c = let k = askable c in mixture_facts _ _ k.heads_long k.weights_long (ask_passes _ _ _ _ k.passes).0

pub divide-requires : goal.divide-requires
divide-requires c = rw c.weighted_sums-sums.ensures.lower (sum_fits _ _ (facts (goal.at.divide-requires c).In_ok-check_ask) Down _)

pub divide-requires-2 : goal.divide-requires-2
divide-requires-2 c =
    rw c.weighted_sums-sums.ensures.upper (sum_fits _ _ (facts (goal.at.divide-requires-2 c).In_ok-check_ask) Up _)

pub returns : goal.returns
unfolding mixture_answer mixture_bound
returns c =
    let call = c.weighted_sums-sums in
    let a = c.args in
    let at = (goal.at.returns c).In_ok-check_ask in
    let out = answered_out (EnclosesMixture (components_of a.mixture a.row.now) a.question) (record { lower = c.divide.result; upper = c.divide-2.result }) _
    (workspace_needed (ask_of_one a.mixture a.question)) _ a.workspace.now _ (askable at).passes
    (c.divide.ensures ∙ ap (λ n. quotient Down n S) call.ensures.lower) (c.divide-2.ensures ∙ ap (λ n. quotient Up n S) call.ensures.upper)
    call.ensures.cleared refl (accepted_encloses _ _ (facts at) a.question) in
    record { answered = out.0; cleared = out.1.0; encloses = out.1.1 }
