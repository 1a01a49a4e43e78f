-- `put_claim` meets its contract: no line of an empty size, and otherwise the size, its weight and what the claim leads to.
use Prim.Native.Nat.{ℕ, suc, ◌+◌, ◌-◌, ◌≤◌}
use mathlib.Core.Path.{◌≡◌, ◌∙◌, ap}
use mathlib.Core.List.{List, [], ◌∷◌, ◌++◌}
use native.Mathlib.Omega.{arith}
use lib.ListN.{length}
use Rattle.model.specs.declared.Question.{Question}
use Rattle.model.specs.MonthRule.{rule_of}
use Rattle.text.specs.Text.{ascii, entry, line, Appended}
use Rattle.text.proofs.TextLaws.{appended_more, room_first, room_rest, appended_nothing, appended_as}
use Rattle.plain_engine.proofs.ValueLaws.{terms_below}
use Rattle.tree_values.specs.Lines.{value_text, claimed_text, claim_text}
use Rattle.tree_lines.proofs.LineLaws.{claim_first, claim_empty, claim_filled, claimed_none, claimed_some}
use Rattle.tree_lines.proofs.put_claim.Goals as goal
use Rattle.tree_lines.proofs.put_claim.Goals.{Else-weight-eq0, After-put_entry-end-2, Then-followed-eq0, After-claims_after-fewer}

-- what the claim leads to, after the size and its weight
abbrev rest : Question → List ℕ → ℕ → List ℕ → ℕ → ℕ → ℕ → List ℕ
rest q F t later k s place = claimed_text q F (t + 1) later ((rule_of q).after_claim k) (s - place)

parts :
    (c : Else-weight-eq0) → let a = c.args in
    claim_text a.question a.severity.now a.month a.later.now a.node.left a.node.level (suc a.place)
    ≡ claim_first (a.place + 1) c.from-weight.result ++ rest a.question a.severity.now a.month a.later.now a.node.left a.node.level a.place
parts c =
    let a = c.args in
    claim_filled a.question a.severity.now a.month a.later.now a.node.left a.node.level a.place c.from-weight.result c.from-weight.ensures c.if-weight-eq0.false

room :
    (c : Else-weight-eq0) → let a = c.args in
    a.at + length (claim_first (a.place + 1) c.from-weight.result ++ rest a.question a.severity.now a.month a.later.now a.node.left a.node.level a.place) ≤ length a.text.now
room c = omega (arith, c.requires.place_in_bounds, ap length (parts c))

first_room : (c : Else-weight-eq0) → let a = c.args in a.at + length (claim_first (a.place + 1) c.from-weight.result) ≤ length a.text.now
first_room c =
    let a = c.args in
    room_first a.at (claim_first (a.place + 1) c.from-weight.result) (rest a.question a.severity.now a.month a.later.now a.node.left a.node.level a.place) (room c)

rest_room :
    (c : After-put_entry-end-2) → let a = c.args in
    a.at + length (claim_first (a.place + 1) c.from-weight.result ++ rest a.question a.severity.now a.month a.later.now a.node.left a.node.level a.place) ≤ length a.text.now →
    c.put_entry-end-2.result + length (rest a.question a.severity.now a.month a.later.now a.node.left a.node.level a.place) ≤ length c.put_entry-end-2.new.buffer
rest_room c all =
    let a = c.args in
    room_rest (rest a.question a.severity.now a.month a.later.now a.node.left a.node.level a.place) (appended_more c.put_entry-end.ensures c.put_entry-end-2.ensures)
    (c.put_entry-end-2.auto.buffer ∙ c.put_entry-end.auto.buffer) all

written :
    (c : After-put_entry-end-2) (b : List ℕ) (end : ℕ) → let a = c.args in
    Appended c.put_entry-end-2.new.buffer c.put_entry-end-2.result (rest a.question a.severity.now a.month a.later.now a.node.left a.node.level a.place) b end →
    Appended a.text.now a.at (claim_first (a.place + 1) c.from-weight.result ++ rest a.question a.severity.now a.month a.later.now a.node.left a.node.level a.place) b end
written c b end put = appended_more (appended_more c.put_entry-end.ensures c.put_entry-end-2.ensures) put

-- what it leads to, with none left and otherwise
none_left : (c : Then-followed-eq0) → let a = c.args in rest a.question a.severity.now a.month a.later.now a.node.left a.node.level a.place ≡ line (ascii " none left") (0 ∷ 0 ∷ [])
none_left c =
    let a = c.args in
    claimed_none a.question a.severity.now (a.month + 1) a.later.now ((rule_of a.question).after_claim a.node.left) (a.node.level - a.place) c.followed.result c.followed.ensures c.if-followed-eq0.true

some_left :
    (c : After-claims_after-fewer) → let a = c.args in
    rest a.question a.severity.now a.month a.later.now a.node.left a.node.level a.place
    ≡ value_text (ascii " level") a.question a.severity.now (a.month + 1) a.later.now c.claims_after-fewer.result (a.node.level - a.place)
some_left c =
    let a = c.args in
    claimed_some a.question a.severity.now (a.month + 1) a.later.now ((rule_of a.question).after_claim a.node.left) (a.node.level - a.place) c.followed.result c.claims_after-fewer.result
    c.followed.ensures c.if-followed-eq0.false c.claims_after-fewer.ensures

pub returns-then-weight-eq0 : goal.returns-then-weight-eq0
returns-then-weight-eq0 c =
    let a = c.args in
    appended_nothing _ a.text.now a.at
    (claim_empty a.question a.severity.now a.month a.later.now a.node.left a.node.level a.place c.from-weight.result c.from-weight.ensures c.if-weight-eq0.true) c.requires.place_in_bounds

pub put_entry-end-requires : goal.put_entry-end-requires
put_entry-end-requires c =
    let a = c.args in
    room_first a.at (entry (ascii "  claim") ((a.place + 1) ∷ [])) (entry (ascii " weight") (c.from-weight.result ∷ [])) (first_room (goal.at.put_entry-end-requires c).Else-weight-eq0)

pub put_entry-end-requires-2 : goal.put_entry-end-requires-2
put_entry-end-requires-2 c =
    room_rest (entry (ascii " weight") (c.from-weight.result ∷ [])) c.put_entry-end.ensures c.put_entry-end.auto.buffer (first_room (goal.at.put_entry-end-requires-2 c).Else-weight-eq0)

pub put_line-requires : goal.put_line-requires
put_line-requires c =
    let at = goal.at.put_line-requires c in
    omega (arith, rest_room at.After-put_entry-end-2 (room at.Else-weight-eq0), ap length (none_left at.Then-followed-eq0))

pub returns-then-followed-eq0 : goal.returns-then-followed-eq0
returns-then-followed-eq0 c =
    let at = goal.at.returns-then-followed-eq0 c in
    appended_as (parts at.Else-weight-eq0) (written at.After-put_entry-end-2 _ _ (appended_as (none_left at.Then-followed-eq0) c.put_line.ensures))

pub put_value-requires : goal.put_value-requires
put_value-requires c =
    let a = c.args in
    let at = goal.at.put_value-requires c in
    record {
      terms = terms_below a.severity.now a.later.now a.node.level (a.node.level - a.place) (omega arith) c.requires.terms;
      level_in_bounds = omega (arith, rest_room at.After-put_entry-end-2 (room at.Else-weight-eq0), ap length (some_left at.After-claims_after-fewer));
    }

pub returns : goal.returns
returns c =
    let at = goal.at.returns c in
    appended_as (parts at.Else-weight-eq0) (written at.After-put_entry-end-2 _ _ (appended_as (some_left at.After-claims_after-fewer) c.put_value.ensures))
