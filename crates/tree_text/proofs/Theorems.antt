-- What holds of a tree's text: input longer than every plan, and how many lines it can have.
use Prim.Native.Nat.{ℕ, zero, suc, ◌+◌, ◌-◌, ◌≤◌, zero-le, ◌<◌}
use mathlib.Core.Path.{◌≡◌, refl, sym}
use mathlib.Core.Bool.{Bool, true, false, cond}
use mathlib.Core.Logic.{⊎_elim}
use mathlib.Core.List.{List, []}
use native.Mathlib.Nat.{le_trans, mul-one, mul-pos}
use native.Mathlib.Omega.{arith}
use lib.Dec.{eqb}
use lib.ListN.{take}
use Rattle.model.specs.declared.Head.{Head}
use Rattle.model.specs.declared.Ask.{Ask}
use Rattle.model.specs.declared.Question.{Question}
use Rattle.model.specs.Limits.{row_room, max_small_opening}
use Rattle.model.specs.Sums.{sum, count}
use Rattle.model.specs.Format.{head_of, row_of}
use Rattle.model.specs.Refusal.{read_refusal}
use Rattle.model.proofs.SumLaws.{sum_last, below_or_not}
use Rattle.codec.specs.Input.{input_room}
use Rattle.codec.proofs.LongInput.{reads_enough as LongInput·reads-enough}
use Rattle.report_lines.specs.Lines.{refused_line}
use Rattle.text.specs.Text.{ascii, joined}
use Rattle.plain_engine.specs.Answers.{plain_refusal}
use Rattle.plain_engine.proofs.Theorems.{taken}
use Rattle.tree_text.specs.Tree.{first_part, accepted_part, tree_part, tree_parts, tree_of}
use Rattle.tree_text.specs.Rooms.{level_lines, month_lines, lines_in, tree_lines}
use Rattle.tree_text.proofs.TreeLaws.{part_refused, part_read, accepted_refused, beyond_months, month_lent, terms_lent}
use Rattle.tree_text.proofs.RoomLaws.{line_cost_one, month_cost, lines_append, number_one_line, line_costs, lines_rise}

-- what the program prints is the tree of all its input, part by part
pub reads_enough : (q : Question) (bytes : List ℕ) (t : ℕ) → tree_part q (take input_room bytes) t ≡ tree_part q bytes t
reads_enough q bytes t = LongInput·reads-enough (λ part. tree_part q part t) (λ n. first_part t (refused_line n)) row_room (λ part. part_refused q part t _ refl) bytes

no_lines : lines_in [] ≤ 0
unfolding lines_in count
no_lines = zero-le

-- a refusal is one line
refused_lines : (t n : ℕ) → lines_in (first_part t (refused_line n)) ≤ 1
unfolding first_part lines_in count
refused_lines t n = either (eqb t 0)
  where
    whole : lines_in (refused_line n) ≤ 1
    whole = omega (arith, line_cost_one line_costs (ascii "refused") n, number_one_line n)

    either : (b : Bool) → lines_in (cond b (refused_line n) []) ≤ 1
    either true = whole
    either false = omega arith

some_lines : (t : ℕ) → 1 ≤ month_lines t
unfolding level_lines
some_lines t =
    let first : 1 ≤ level_lines 1 = omega arith in
    mul-pos (omega arith) (le_trans first (lines_rise 1 (max_small_opening + t + 1) (omega arith)))

-- the lines of a part: those of a month of an accepted plan
accepted_lines : (q : Question) (h : Head) (row : List ℕ) (t : ℕ) → lines_in (accepted_part q h row t) ≤ month_lines t
accepted_lines q h row t = by_refusal (plain_refusal a row) refl
  where
    a : Ask
    a = record { head = h; question = q }

    in_month : plain_refusal a row ≡ 0 → t ≤ h.months → lines_in (accepted_part q h row t) ≤ month_lines t
    in_month none l = rw (month_lent q h row t none l) (omega (arith, month_cost line_costs (terms_lent q h row t (taken a row none) l), mul-one (month_lines t)))

    nothing : plain_refusal a row ≡ 0 → h.months < t → lines_in (accepted_part q h row t) ≤ month_lines t
    nothing none l = rw (beyond_months q h row t none l) (le_trans no_lines zero-le)

    by_refusal : (n : ℕ) → n ≡ plain_refusal a row → lines_in (accepted_part q h row t) ≤ month_lines t
    by_refusal zero e = ⊎_elim (nothing (sym e)) (in_month (sym e)) (below_or_not h.months t)
    by_refusal (suc n) e = rw (accepted_refused q h row t (suc n) e (λ z. omega (arith, z))) (le_trans (refused_lines t (suc n)) (some_lines t))

part_lines : (q : Question) (bytes : List ℕ) (t : ℕ) → lines_in (tree_part q bytes t) ≤ month_lines t
part_lines q bytes t = by_refusal (read_refusal bytes row_room) refl
  where
    by_refusal : (n : ℕ) → n ≡ read_refusal bytes row_room → lines_in (tree_part q bytes t) ≤ month_lines t
    by_refusal zero e = rw (part_read q bytes t (sym e)) (accepted_lines q (head_of bytes) (row_of bytes) t)
    by_refusal (suc n) e = rw (part_refused q bytes t (suc n) e (λ z. omega (arith, z))) (le_trans (refused_lines t (suc n)) (some_lines t))

parts_lines : (q : Question) (bytes : List ℕ) (n : ℕ) → lines_in (joined n (tree_part q bytes)) ≤ sum n (λ t. month_lines (t - 1))
unfolding joined sum
parts_lines q bytes zero = no_lines
parts_lines q bytes (suc n) =
    let here : suc n - 1 ≡ n = omega arith in
    omega (arith, lines_append (joined n (tree_part q bytes)) (tree_part q bytes n), parts_lines q bytes n, part_lines q bytes n, rw here at (sum_last n (λ t. month_lines (t - 1))))

-- at most a few thousand lines, whatever the plan
pub most_lines : (q : Question) (bytes : List ℕ) → lines_in (tree_of q bytes) ≤ tree_lines
unfolding tree_of tree_lines
most_lines q bytes = parts_lines q bytes tree_parts

pub lines_figure : tree_lines ≡ 2814
unfolding tree_lines sum level_lines
lines_figure = refl
