-- Laws of the groups of lines: a question has at most so many, and where they end. Assumes nothing.
use Prim.Native.Nat.{ℕ, ◌+◌, ◌*◌, ◌^◌, ◌<◌, ◌≤◌}
use mathlib.Core.Path.{◌≡◌, refl, ◌∙◌}
use mathlib.Core.Bool.{false}
use mathlib.Core.List.{List, [], ◌∷◌}
use native.Mathlib.Omega.{arith}
use native.Mathlib.Nat.{min-le_right, mul-le-mul_right}
use lib.ListN.{length}
use borrow.Author.Tests.{le-ltb}
use Rattle.model.specs.declared.Head.{Head}
use Rattle.model.specs.declared.Question.{Question}
use Rattle.model.specs.declared.Question.TheVariants.{Survive, Both, High, Low}
use Rattle.model.specs.Limits.{max_claims, max_level, places}
use Rattle.model.specs.Plan.{Plan}
use Rattle.model.specs.Refusal.{outside}
use Rattle.model.proofs.Facts.{HeadFacts}
use Rattle.text.specs.Text.{ascii, joined, Appended}
use Rattle.text.proofs.TextLaws.{line_at_most, joined_at_most, joined_same, Appending, appending_start, appending_turn, appending_done}
use Rattle.report_groups.specs.Groups.{numbered, question_at, question_lines, LinesFit, line_range, group_lines, most_lines, lines_need, claims_line, claims_at, claims_line_of, claims_lines}
use Rattle.report_lines.specs.Asking.{question_needs, Cleared}
use Rattle.report_lines.specs.Lines.{line_room, CountsOf}
use Rattle.report_lines.proofs.AskingLaws.{cleared_none, cleared_turn, cleared_all}

pub claims_short : (k low high : ℕ) → length (claims_line k low high) ≤ line_room
claims_short k low high = omega (arith, line_at_most (ascii "claims") (k ∷ low ∷ high ∷ []))

-- the lines of rows that hold the count row are its lines
pub claims_are : {p : Plan} {lowers uppers : List ℕ} (n : ℕ) → n < places → CountsOf p lowers uppers → joined (n + 1) (claims_at lowers uppers) ≡ claims_lines p n
unfolding claims_lines
claims_are n h counts =
    joined_same (n + 1) (λ k l. rw (counts.lowers_are k (omega arith), counts.uppers_are k (omega arith)))

-- the numbers of a question's lines start at 0 or 1, are within the limits, and are at most so many
pub range_starts : (q : Question) (h : Head) → (line_range q h).first ≤ 1
unfolding line_range
range_starts Survive h = omega arith
range_starts (Both k) h = omega arith
range_starts (High L) h = omega arith
range_starts (Low L) h = omega arith

pub range_within : (q : Question) (h : Head) → HeadFacts h → (i : ℕ) → i < (line_range q h).count → outside (numbered q ((line_range q h).first + i)) ≡ false
unfolding outside line_range
range_within Survive h known i l = refl
range_within (Both k) h known i l = le-ltb max_claims (0 + i) (omega (arith, min-le_right h.months max_claims))
range_within (High L) h known i l = le-ltb max_level (1 + i) (omega (arith, known.span_fits))
range_within (Low L) h known i l = le-ltb max_level (1 + i) (omega (arith, known.opening_fits, known.income_fits))

pub range_most : (q : Question) (h : Head) → HeadFacts h → (line_range q h).count ≤ most_lines q
unfolding line_range most_lines
range_most Survive h known = omega arith
range_most (Both k) h known = omega (arith, min-le_right h.months max_claims)
range_most (High L) h known = omega (arith, known.span_fits)
range_most (Low L) h known = omega (arith, known.opening_fits, known.income_fits)

-- so a question's lines fit where there is room for the most
pub range_fits :
    (q : Question) (h : Head) {at : ℕ} {text : List ℕ}
    → HeadFacts h → length text < 2 ^ 64 → at + most_lines q * line_room ≤ length text
    → LinesFit q (line_range q h).first (line_range q h).count at text
range_fits q h known long room =
    let most = mul-le-mul_right line_room (range_most q h known) in
    record { within = range_within q h known; numbers_fit = omega (arith, range_starts q h); room = omega arith }

-- What putting a question's lines one by one keeps: the first i are appended, and their questions have cleared the workspace.
pub record Putting
    (Line_of : Question → List ℕ) (h : Head) (q : Question) (first count : ℕ) (text₀ : List ℕ) (at : ℕ) (ws₀ text ws : List ℕ) (end i : ℕ) : Type 0
  where
    pub lines : Appending (question_at Line_of q first) count text₀ at text end i
    pub space : Cleared (lines_need h q first i) ws₀ ws

module _ {Line_of : Question → List ℕ} {h : Head} {q : Question} {first count : ℕ} {text₀ : List ℕ} {at : ℕ} {ws₀ : List ℕ} where
  pub putting_none : at ≤ length text₀ → Putting Line_of h q first count text₀ at ws₀ text₀ ws₀ at 0
  putting_none inside = record { lines = appending_start inside; space = cleared_none _ _ }

  module _ {text ws : List ℕ} {end i : ℕ} (p : Putting Line_of h q first count text₀ at ws₀ text ws end i) where
    -- one more, of the question as it was asked
    pub putting_more :
        (asked : Question) → asked ≡ numbered q (first + i) → i < count → {text' ws' : List ℕ} {end' : ℕ} → length text' ≡ length text →
        Appended text end (Line_of asked) text' end' → Cleared (question_needs h asked) ws ws' → Putting Line_of h q first count text₀ at ws₀ text' ws' end' (i + 1)
    putting_more asked e l same written cleared =
        record {
          lines = appending_turn p.lines l same (rw e at written);
          space = cleared_turn (λ i. question_needs h (numbered q (first + i))) p.space (rw e at cleared);
        }

    pub putting_done : count ≤ i → Appended text₀ at (question_lines Line_of q first count) text end × Cleared (lines_need h q first count) ws₀ ws
    unfolding question_lines
    putting_done all =
        let every : i ≡ count = omega (arith, p.lines.turns) in
        (appending_done p.lines all, cleared_all (λ i. question_needs h (numbered q (first + i))) every p.space)

-- where the lines of the count row and those of a question end
pub claims_end : (p : Plan) (n : ℕ) {b b' : List ℕ} {at end : ℕ} → Appended b at (claims_lines p n) b' end → end ≤ at + (n + 1) * line_room
unfolding claims_lines
claims_end p n e = omega (arith, e.ends, joined_at_most (claims_line_of p) line_room (λ k. claims_short k _ _) (n + 1))

pub group_ends :
    (Line_of : Question → List ℕ) (h : Head) (q : Question) {b b' : List ℕ} {at end : ℕ}
    → ((q : Question) → length (Line_of q) ≤ line_room) → HeadFacts h → Appended b at (group_lines Line_of h q) b' end → end ≤ at + most_lines q * line_room
unfolding question_lines
group_ends Line_of h q short known e =
    omega (
      arith,
      e.ends,
      joined_at_most (question_at Line_of q (line_range q h).first) line_room (λ i. short _) (line_range q h).count,
      mul-le-mul_right line_room (range_most q h known),
    )

-- a text as long as it was, with room for so many lines after its end, and what a question's lines leave of it
pub record Leaves (before text : List ℕ) (end lines : ℕ) : Type 0 where
  pub long : length text ≡ length before
  pub room : end + lines * line_room ≤ length before

pub group_leaves :
    (Line_of : Question → List ℕ) (h : Head) (q : Question) {before b b' : List ℕ} {at end lines : ℕ} (rest : ℕ)
    → ((q : Question) → length (Line_of q) ≤ line_room) → HeadFacts h → Leaves before b at lines → most_lines q + rest ≤ lines
    → length b' ≡ length b → Appended b at (group_lines Line_of h q) b' end → Leaves before b' end rest
group_leaves Line_of h q rest short known left enough same e =
    record { long = same ∙ left.long; room = omega (arith, left.room, enough, group_ends Line_of h q short known e) }
