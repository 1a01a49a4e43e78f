-- `sheet_checks::check` meets its contract: the lists of checks, one after the other.
use mathlib.Core.Path.{◌≡◌, sym, ap, ◌∙◌}
use lib.ListN.{length}
use Rattle.model.specs.Refusal.{first, head_checks, HeadAccepted}
use Rattle.model.proofs.RefusalNumbers.{not_accepted, passed_on}
use Rattle.sheet_values.specs.Sheet.{sheet_length, sheet_of, sheet_head}
use Rattle.sheet_checks.specs.Refusal.{rule_checks, weight_checks, sheet_checks}
use Rattle.sheet_checks.proofs.CheckLaws.{or_then, refused_here, passed_on as passed_over, sheet_first, kind_known, rules_hold}
use Rattle.sheet_checks.proofs.check.Goals as goal
use Rattle.sheet_checks.proofs.check.Goals.{After-head_of, In_ok-check_head, In_ok-check_kind}

pub returns-in_err-check_kind : goal.returns-in_err-check_kind
returns-in_err-check_kind c =
    let e = c.in_err-check_kind.ensures in
    passed_on _ _ c.from_residual.ensures.1 ∙ e ∙ sym (sheet_first c.args.bytes.now ∙ refused_here _ _ (not_accepted _ _ e))

length_is : (c : In_ok-check_kind) → length c.args.bytes.now ≡ sheet_length
length_is c = kind_known _ (sym c.in_ok-check_kind.ensures)

pub sheet_of-sheet-requires : goal.sheet_of-sheet-requires
sheet_of-sheet-requires c = length_is (goal.at.sheet_of-sheet-requires c).In_ok-check_kind

-- after the kind, the head and the rest
kind-left :
    (c : In_ok-check_kind) →
    let b = c.args.bytes.now in
    first (sheet_checks b)
    ≡ or_then (first (head_checks (sheet_head (sheet_of b)))) (or_then (first (rule_checks b)) (first (weight_checks (sheet_of b))))
kind-left c = sheet_first c.args.bytes.now ∙ passed_over _ _ (sym c.in_ok-check_kind.ensures)

head_is : (c : After-head_of) → first (head_checks c.head_of.result) ≡ first (head_checks (sheet_head (sheet_of c.args.bytes.now)))
head_is c = ap (λ h. first (head_checks h)) (c.head_of.ensures ∙ ap sheet_head c.sheet_of-sheet.ensures)

pub returns-in_err-check_head : goal.returns-in_err-check_head
returns-in_err-check_head c =
    let at = goal.at.returns-in_err-check_head c in
    let e = c.in_err-check_head.ensures ∙ head_is at.After-head_of in
    passed_on _ _ c.from_residual-in_err-check_head.ensures.1 ∙ e ∙ sym (kind-left at.In_ok-check_kind ∙ refused_here _ _ (not_accepted _ _ e))

-- where the head passed: `head` is `head_is`
head_ok :
    (c : In_ok-check_head) → first (head_checks c.head_of.result) ≡ first (head_checks (sheet_head (sheet_of c.args.bytes.now)))
    → HeadAccepted (sheet_head (sheet_of c.args.bytes.now))
head_ok c head = sym (c.in_ok-check_head.ensures ∙ head)

pub check_rule-requires : goal.check_rule-requires
check_rule-requires c =
    let at = goal.at.check_rule-requires c in
    record { bytes_len = length_is at.In_ok-check_kind; head_accepted = head_ok at.In_ok-check_head (head_is at.After-head_of) }

-- after the head, the rules and the weights
head-left :
    (c : In_ok-check_kind) → HeadAccepted (sheet_head (sheet_of c.args.bytes.now))
    → first (sheet_checks c.args.bytes.now) ≡ or_then (first (rule_checks c.args.bytes.now)) (first (weight_checks (sheet_of c.args.bytes.now)))
head-left c ok = kind-left c ∙ passed_over _ _ ok

pub returns-in_err-check_rule : goal.returns-in_err-check_rule
returns-in_err-check_rule c =
    let at = goal.at.returns-in_err-check_rule c in
    let ok = head_ok at.In_ok-check_head (head_is at.After-head_of) in
    let e = c.in_err-check_rule.ensures in
    passed_on _ _ c.from_residual-in_err-check_rule.ensures.1 ∙ e ∙ sym (head-left at.In_ok-check_kind ok ∙ refused_here _ _ (not_accepted _ _ e))

pub check_weights-requires : goal.check_weights-requires
check_weights-requires c =
    let at = goal.at.check_weights-requires c in
    let ok = head_ok at.In_ok-check_head (head_is at.After-head_of) in
    rw c.sheet_of-sheet.ensures (ok, (rules_hold _ (sym c.in_ok-check_rule.ensures)).alpha_within)

pub returns : goal.returns
returns c =
    let at = goal.at.returns c in
    let ok = head_ok at.In_ok-check_head (head_is at.After-head_of) in
    c.check_weights.ensures
    ∙ ap (λ s. first (weight_checks s)) c.sheet_of-sheet.ensures
    ∙ sym (head-left at.In_ok-check_kind ok ∙ passed_over _ _ (sym c.in_ok-check_rule.ensures))
