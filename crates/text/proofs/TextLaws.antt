-- Laws of appending and of decimal numbers. Assumes nothing.
use Prim.Native.Nat.{ℕ, zero, suc, ◌+◌, ◌*◌, ◌/◌, ◌^◌, ◌≤◌, ◌<◌}
use mathlib.Core.Path.{◌≡◌, refl, sym, ap, ap₂, ◌∙◌}
use mathlib.Core.Bool.{Bool, true, false, cond}
use mathlib.Core.List.{List, [], ◌∷◌, ◌++◌, append_assoc, append-nil}
use native.Mathlib.Omega.{arith}
use native.Mathlib.Numerals.{add-one}
use native.Mathlib.Nat.{pow-suc, eq-or-lt_of_le, zero-add, zero-mul, suc-mul, mul-le-mul_right}
use mathlib.Core.Logic.{⊎_elim}
use lib.Dec.{ltb}
use lib.ListN.{length, get_or, take, drop, set, take-append-drop, length-append, length-set}
use lib.Seq.{length-take-le, take-suc-set, drop-drop, drop-set-lt}
use borrow.Author.Tests.{lt-ltb, le-ltb}
use borrow.Author.Rules.{rules}
use borrow.Rule.Slice.PartMut.{put_mid}
use Rattle.std.proofs.lemmas.Slice.{take-put_mid, drop-put_mid, overwrites}
use Rattle.std.specs.Fmt.{decimal as Fmt·decimal}
use Rattle.std.proofs.lemmas.Fmt.{AppendsLastDigit, decimal_from_appends, length-decimal-le}
use Rattle.text.specs.Text.{digits, decimal, spaced_each, joined, entry, line, Appended}

-- nothing appended
pub appended_none : (b : List ℕ) (at : ℕ) → at ≤ length b → Appended b at [] b at
appended_none b at h = record { ends = omega arith; inside = h; holds = sym (append-nil (take at b)); rest = refl }

pub appended_nothing : (t b : List ℕ) (at : ℕ) → t ≡ [] → at + length t ≤ length b → Appended b at t b at
appended_nothing t b at e room = rw e (appended_none b at (omega arith))

-- the same text by another name
pub appended_as : {b b' t u : List ℕ} {at end : ℕ} → t ≡ u → Appended b at u b' end → Appended b at t b' end
appended_as e h = rw e h

-- one text after another
pub appended_more : {b₀ b₁ b₂ t₁ t₂ : List ℕ} {a₀ a₁ a₂ : ℕ} → Appended b₀ a₀ t₁ b₁ a₁ → Appended b₁ a₁ t₂ b₂ a₂ → Appended b₀ a₀ (t₁ ++ t₂) b₂ a₂
appended_more {b₀} {b₁} {b₂} {t₁} {t₂} {a₀} {a₁} p q =
    record {
      ends = omega (arith, p.ends, q.ends, length-append t₁ t₂);
      inside = q.inside;
      holds = q.holds ∙ ap (λ (l : List ℕ). l ++ t₂) p.holds ∙ append_assoc (take a₀ b₀) t₁ t₂;
      rest = q.rest ∙ (rw (q.ends, ← drop-drop (length t₂) a₁ b₁, ← drop-drop (length t₂) a₁ b₀, p.rest));
    }

-- room for the first of two texts, and for the second once the first is appended
pub room_first : {n : ℕ} (at : ℕ) (t u : List ℕ) → at + length (t ++ u) ≤ n → at + length t ≤ n
room_first at t u h = omega (arith, length-append t u)

pub room_rest : {b b' t : List ℕ} {at end : ℕ} (u : List ℕ) → Appended b at t b' end → length b' ≡ length b → at + length (t ++ u) ≤ length b → end + length u ≤ length b'
room_rest {t = t} u p same h = omega (arith, p.ends, length-append t u)

-- appended to nothing: the whole buffer, of which the text is the first part
pub appended_whole :
    {b b' t : List ℕ} {end : ℕ}
    → Appended b 0 t b' end
    → (end ≡ length t) × ((b' ≡ t ++ drop end b) × ((end ≤ length b') × (end ≡ length (take end b'))))
appended_whole {b} {b'} {t} {end} p = (
  p.ends ∙ zero-add (length t),
  (
    sym (take-append-drop end b') ∙ ap₂ (λ (x y : List ℕ). x ++ y) p.holds p.rest,
    (p.inside, sym (length-take-le end b' p.inside)),
  ),
)

-- one byte
pub appended_byte : (b : List ℕ) (at x : ℕ) → at < length b → Appended b at (x ∷ []) (set b at x) (at + 1)
appended_byte b at x h = record { ends = refl; inside = simp length-set (omega arith); holds = rw (add-one, take-suc-set); rest = drop-set-lt (at + 1) b at x (omega arith) }

-- a part that is written over
pub appended_part :
    {b word part : List ℕ} (at k : ℕ) → part ≡ word → k ≡ length word → at + length word ≤ length b → Appended b at word (put_mid at k b part) (at + length word)
appended_part {b} {word} {part} at k e same room =
    rw e (record {
      ends = refl;
      inside = search (rules, overwrites);
      holds = take-put_mid at k b word _ refl (omega arith);
      rest = drop-put_mid at k b word _ (omega arith) (omega arith) (sym same);
    })

no_longer : (b : Bool) (l : List ℕ) → length (cond b [] l) ≤ length l
no_longer true l = omega arith
no_longer false l = omega arith

digits_length : (places n : ℕ) → length (digits places n) ≤ places
unfolding digits
digits_length zero n = omega arith
digits_length (suc places) n =
    simp length-append (omega (arith, no_longer (ltb n 10) (digits places (n / 10)), digits_length places (n / 10)))

-- a number has at most 20 digits
decimal_length : (n : ℕ) → length (decimal n) ≤ 20
unfolding decimal
decimal_length n = digits_length 20 n

-- and as many as it needs
digits_few : (places k n : ℕ) → n < 10 ^ suc k → length (digits places n) ≤ suc k
unfolding digits
digits_few zero k n h = omega arith
digits_few (suc places) zero n h = rw (lt-ltb n 10 h) (omega arith)
digits_few (suc places) (suc k) n h =
    simp length-append
    (omega (arith, no_longer (ltb n 10) (digits places (n / 10)), digits_few places k (n / 10) (omega (arith, pow-suc 10 (suc k)))))

pub decimal_few : (k n : ℕ) → n < 10 ^ suc k → length (decimal n) ≤ suc k
unfolding decimal
decimal_few k n h = digits_few 20 k n h

-- the library prints a number of 64 bits so
appends_last : AppendsLastDigit digits
unfolding digits
appends_last =
    record {
      one = λ k n h. rw (lt-ltb n 10 h) (ap (λ d. d ∷ []) (omega arith));
      more = λ k n h. rw (le-ltb n 10 h);
    }

pub decimal_printed : (n : ℕ) → n < 2 ^ 64 → decimal n ≡ Fmt·decimal n
unfolding decimal
decimal_printed n fits = decimal_from_appends digits appends_last 20 n fits (length-decimal-le 20 n (omega arith) (omega arith) fits)

-- the first texts and the next are no longer than all
joined_length : (f : ℕ → List ℕ) (n : ℕ) {i : ℕ} → i < n → length (joined i f) + length (f i) ≤ length (joined n f)
unfolding joined
joined_length f zero h = omega arith
joined_length f (suc n) {i} h =
    ⊎_elim
    (λ (e : i ≡ n). rw e (simp length-append (omega arith)))
    (λ (l : i < n). simp length-append (omega (arith, joined_length f n l)))
    (eq-or-lt_of_le (omega arith))

-- and all are at most so many times the longest
pub joined_at_most : (f : ℕ → List ℕ) (k : ℕ) → ((i : ℕ) → length (f i) ≤ k) → (n : ℕ) → length (joined n f) ≤ n * k
unfolding joined
joined_at_most f k h zero = omega (arith, zero-mul k)
joined_at_most f k h (suc n) = simp length-append (omega (arith, joined_at_most f k h n, h n, suc-mul n k))

-- What a loop keeps that appends the texts of 0 to n − 1, before turn i: the buffer's length, and the first i texts after what it held.
pub record Appending (f : ℕ → List ℕ) (n : ℕ) (b : List ℕ) (at : ℕ) (b' : List ℕ) (end i : ℕ) : Type 0 where
  pub long : length b' ≡ length b
  pub turns : i ≤ n
  pub text : Appended b at (joined i f) b' end

pub appending_start : {f : ℕ → List ℕ} {n : ℕ} {b : List ℕ} {at : ℕ} → at ≤ length b → Appending f n b at b at 0
unfolding joined
appending_start h = record { long = refl; turns = omega arith; text = appended_none _ _ h }

module _ {f : ℕ → List ℕ} {n : ℕ} {b b' : List ℕ} {at end i : ℕ} (p : Appending f n b at b' end i) where
  -- room for the text of a turn, where there is room for all, or for as many of the longest
  pub appending_room : i < n → at + length (joined n f) ≤ length b → end + length (f i) ≤ length b'
  appending_room h room = omega (arith, p.text.ends, p.long, joined_length f n h)

  pub appending_room_each : (k : ℕ) → ((j : ℕ) → length (f j) ≤ k) → i < n → at + n * k ≤ length b → end + k ≤ length b'
  appending_room_each k h l room =
      omega (arith, p.text.ends, p.long, joined_at_most f k h i, suc-mul i k, mul-le-mul_right k l)

  pub appending_turn : {b'' : List ℕ} {end' : ℕ} → i < n → length b'' ≡ length b' → Appended b' end (f i) b'' end' → Appending f n b at b'' end' (i + 1)
  unfolding joined
  appending_turn l same q = record { long = same ∙ p.long; turns = omega arith; text = rw add-one (appended_more p.text q) }

  pub appending_done : n ≤ i → Appended b at (joined n f) b' end
  appending_done h = let e : i ≡ n = omega (arith, p.turns) in rw e at p.text

-- an entry is as long as its word and its numbers
pub entry_length : (word numbers : List ℕ) → length (entry word numbers) ≡ length word + length (joined (length numbers) (spaced_each numbers))
unfolding entry
entry_length word numbers = length-append word _

-- a line is its entry and a newline
pub line_length : (word numbers : List ℕ) → length (line word numbers) ≡ length (entry word numbers) + 1
unfolding line
line_length word numbers = length-append (entry word numbers) _

-- How long they can get
pub entry_at_most : (word numbers : List ℕ) → length (entry word numbers) ≤ length word + length numbers * 21
entry_at_most word numbers =
    omega (
      arith,
      entry_length word numbers,
      joined_at_most (spaced_each numbers) 21 (λ i. omega (arith, decimal_length (get_or numbers i 0))) (length numbers),
    )

pub line_at_most : (word numbers : List ℕ) → length (line word numbers) ≤ length word + length numbers * 21 + 1
line_at_most word numbers = omega (arith, line_length word numbers, entry_at_most word numbers)

-- there is room for an entry and for a line
pub entry_fits : (word numbers : List ℕ) (at room : ℕ) → at + (length word + length numbers * 21) ≤ room → at + length (entry word numbers) ≤ room
entry_fits word numbers at room h = omega (arith, entry_at_most word numbers)

pub line_fits : (word numbers : List ℕ) (at room : ℕ) → at + (length word + length numbers * 21 + 1) ≤ room → at + length (line word numbers) ≤ room
line_fits word numbers at room h = omega (arith, line_at_most word numbers)

-- where an entry ends
pub entry_ends :
    (word numbers : List ℕ) {b b' : List ℕ} {at end : ℕ} → Appended b at (entry word numbers) b' end → end ≤ at + (length word + length numbers * 21)
entry_ends word numbers p = omega (arith, p.ends, entry_at_most word numbers)

-- the same texts give the same whole
pub joined_same : {f g : ℕ → List ℕ} (n : ℕ) → ((k : ℕ) → k < n → f k ≡ g k) → joined n f ≡ joined n g
unfolding joined
joined_same zero h = refl
joined_same {f} {g} (suc n) h =
    ap (λ (l : List ℕ). l ++ f n) (joined_same n (λ k l. h k (omega arith))) ∙ ap (λ (l : List ℕ). joined n g ++ l) (h n (omega arith))
