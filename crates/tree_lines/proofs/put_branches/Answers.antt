-- `put_branches` meets its contract: the chance, the branch without a claim, those of the sizes that do not ruin, and what ruins.
use Prim.Native.Nat.{ℕ, ◌+◌, ◌-◌, ◌≤◌}
use mathlib.Core.Path.{◌≡◌, ◌∙◌, ap}
use mathlib.Core.List.{List, [], ◌∷◌, ◌++◌}
use native.Mathlib.Omega.{arith}
use lib.ListN.{length, take, drop}
use Rattle.model.specs.declared.Rounding.TheVariants.{Down}
use Rattle.model.specs.declared.Question.{Question}
use Rattle.text.specs.Text.{ascii, line, Appended}
use Rattle.text.proofs.TextLaws.{appended_more, room_first, room_rest, appended_as}
use Rattle.plain_engine.proofs.ValueLaws.{later_terms}
use Rattle.tree_values.specs.Lines.{value_text, claim_texts, branch_texts}
use Rattle.tree_lines.proofs.LineLaws.{branch_parts}
use Rattle.tree_lines.proofs.put_branches.Goals as goal
use Rattle.tree_lines.proofs.put_branches.Goals.{After-ruin_weight, After-put_value-end, After-put_claims-end}

-- the four parts of the text
abbrev later : List ℕ → List ℕ
later Ps = take (length Ps - 1) (drop 1 Ps)

abbrev chance_text : ℕ → List ℕ
chance_text P = line (ascii "  chance") (P ∷ [])

abbrev quiet_text : Question → List ℕ → ℕ → List ℕ → ℕ → ℕ → List ℕ
quiet_text q F t Ps k s = value_text (ascii "  no claim level") q F (t + 1) (later Ps) k (s + 1)

abbrev sizes_text : Question → List ℕ → ℕ → List ℕ → ℕ → ℕ → List ℕ
sizes_text q F t Ps k s = claim_texts q F t (later Ps) k s

abbrev ruin_text : ℕ → List ℕ
ruin_text n = line (ascii "  ruin weight") (n ∷ [])

parts :
    (c : After-ruin_weight) → let a = c.args in
    branch_texts a.question a.severity.now a.tail a.month a.chances.now a.node.left a.node.level
    ≡ chance_text c.from.result
    ++ quiet_text a.question a.severity.now a.month a.chances.now a.node.left a.node.level
    ++ sizes_text a.question a.severity.now a.month a.chances.now a.node.left a.node.level
    ++ ruin_text c.ruin_weight.result
parts c =
    let a = c.args in
    branch_parts a.question a.severity.now a.tail a.month a.chances.now a.node.left a.node.level c.from.result c.ruin_weight.result c.requires.chances_nonzero.0
    c.from.ensures c.ruin_weight.ensures

-- room for the first parts
room_all :
    (c : After-ruin_weight) → let a = c.args in
    a.at
    + length
    (chance_text c.from.result
    ++ quiet_text a.question a.severity.now a.month a.chances.now a.node.left a.node.level
    ++ sizes_text a.question a.severity.now a.month a.chances.now a.node.left a.node.level
    ++ ruin_text c.ruin_weight.result)
    ≤ length a.text.now
room_all c = omega (arith, c.requires.level_in_bounds, ap length (parts c))

room_three :
    (c : After-ruin_weight) → let a = c.args in
    a.at
    + length
    (chance_text c.from.result
    ++ quiet_text a.question a.severity.now a.month a.chances.now a.node.left a.node.level
    ++ sizes_text a.question a.severity.now a.month a.chances.now a.node.left a.node.level)
    ≤ length a.text.now
room_three c =
    let a = c.args in
    room_first a.at
    (chance_text c.from.result
    ++ quiet_text a.question a.severity.now a.month a.chances.now a.node.left a.node.level
    ++ sizes_text a.question a.severity.now a.month a.chances.now a.node.left a.node.level)
    (ruin_text c.ruin_weight.result) (room_all c)

room_two :
    (c : After-ruin_weight) → let a = c.args in
    a.at + length (chance_text c.from.result ++ quiet_text a.question a.severity.now a.month a.chances.now a.node.left a.node.level) ≤ length a.text.now
room_two c =
    let a = c.args in
    room_first a.at (chance_text c.from.result ++ quiet_text a.question a.severity.now a.month a.chances.now a.node.left a.node.level)
    (sizes_text a.question a.severity.now a.month a.chances.now a.node.left a.node.level) (room_three c)

-- what is written so far
two_written :
    (c : After-put_value-end) → let a = c.args in
    Appended a.text.now a.at (chance_text c.from.result ++ quiet_text a.question a.severity.now a.month a.chances.now a.node.left a.node.level) c.put_value-end.new.text c.put_value-end.result
two_written c = appended_more c.put_line-end.ensures c.put_value-end.ensures

two_long : (c : After-put_value-end) → length c.put_value-end.new.text ≡ length c.args.text.now
two_long c = c.put_value-end.auto.text ∙ c.put_line-end.auto.buffer

three_written :
    (c : After-put_claims-end) → let a = c.args in
    Appended a.text.now a.at
    (chance_text c.from.result
    ++ quiet_text a.question a.severity.now a.month a.chances.now a.node.left a.node.level
    ++ sizes_text a.question a.severity.now a.month a.chances.now a.node.left a.node.level)
    c.put_claims-end.new.text c.put_claims-end.result
three_written c = appended_more (appended_more c.put_line-end.ensures c.put_value-end.ensures) c.put_claims-end.ensures

pub put_line-end-requires : goal.put_line-end-requires
put_line-end-requires c =
    let a = c.args in
    room_first a.at (chance_text c.from.result) (quiet_text a.question a.severity.now a.month a.chances.now a.node.left a.node.level) (room_two (goal.at.put_line-end-requires c).After-ruin_weight)

pub put_value-end-requires : goal.put_value-end-requires
put_value-end-requires c =
    let a = c.args in
    record {
      terms = later_terms Down a.question a.severity.now a.chances.now a.node.level c.requires.terms c.requires.chances_nonzero.0 _ (omega arith);
      level_in_bounds =
          room_rest (quiet_text a.question a.severity.now a.month a.chances.now a.node.left a.node.level) c.put_line-end.ensures c.put_line-end.auto.buffer
          (room_two (goal.at.put_value-end-requires c).After-ruin_weight);
    }

pub put_claims-end-requires : goal.put_claims-end-requires
put_claims-end-requires c =
    let a = c.args in
    let at = goal.at.put_claims-end-requires c in
    record {
      terms = later_terms Down a.question a.severity.now a.chances.now a.node.level c.requires.terms c.requires.chances_nonzero.0 _ (omega arith);
      month_bound = c.requires.chances_nonzero.1;
      level_in_bounds =
          room_rest (sizes_text a.question a.severity.now a.month a.chances.now a.node.left a.node.level) (two_written at.After-put_value-end) (two_long at.After-put_value-end)
          (room_three at.After-ruin_weight);
    }

pub put_line-requires : goal.put_line-requires
put_line-requires c =
    let at = goal.at.put_line-requires c in
    room_rest (ruin_text c.ruin_weight.result) (three_written at.After-put_claims-end) (c.put_claims-end.auto.text ∙ two_long at.After-put_value-end) (room_all at.After-ruin_weight)

pub returns : goal.returns
returns c =
    let at = goal.at.returns c in
    appended_as (parts at.After-ruin_weight) (appended_more (three_written at.After-put_claims-end) c.put_line.ensures)
