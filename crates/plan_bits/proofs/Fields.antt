-- Bits as a list and by position, at any width: bytes are fields of 8 bits and a row is fields of `number_width`, so each law serves reading and writing.
use Prim.Native.Nat.{ℕ, zero, suc, ◌+◌, ◌*◌, ◌-◌, ◌/◌, ◌%◌, ◌^◌, ◌<◌, ◌≤◌}
use mathlib.Core.Path.{◌≡◌, refl, sym, ap, ap₂, ◌∙◌, fun_ext}
use mathlib.Core.List.{List, [], ◌∷◌, ◌++◌, flat_map, append_assoc}
use native.Mathlib.Nat.{lt_of_lt_of_le, pow-suc, pow-succ', mul_assoc, zero-div, mod-lt, mod-eq_of_lt, mod-one, mul-suc, div-add-mod}
use native.Mathlib.Numerals.{add-one}
use native.Mathlib.Omega.{arith}
use lib.Dec.{lit<}
use lib.Arith.{digits_lt, digits_div, digits_mod, mod-mul}
use lib.Pow.{pow_pos, pow_mono}
use lib.ListN.{length, get_or, take, drop, length-append, length-take, length-drop, get_or-append}
use lib.Seq.{take_at, take-suc, take-add, drop_at, drop-drop, get_or-drop, get_or-append-add, length-take-le}
use Rattle.model.specs.CountRow.{tabulate}
use Rattle.model.specs.Format.{bits, number, fields}

-- The elements of a list of bits are 0 or 1; past its end stands 0.
pub record Bits (bs : List ℕ) : Type 0 where
  pub bit : (i : ℕ) → get_or bs i 0 < 2

pub after_first : {b : ℕ} {bs : List ℕ} → Bits (b ∷ bs) → Bits bs
after_first h = record { bit = λ i. h.bit (suc i) }

bits_take : (n : ℕ) (bs : List ℕ) → Bits bs → Bits (take n bs)
bits_take n bs h = record { bit = go n bs h }
  where
    go : (n : ℕ) (bs : List ℕ) → Bits bs → (i : ℕ) → get_or (take n bs) i 0 < 2
    go zero bs h i = omega arith
    go (suc n) [] h i = omega arith
    go (suc n) (b ∷ bs) h zero = h.bit 0
    go (suc n) (b ∷ bs) h (suc i) = go n bs (after_first h) i

pub bits_drop : (n : ℕ) (bs : List ℕ) → Bits bs → Bits (drop n bs)
bits_drop n bs h = record { bit = λ i. rw get_or-drop (h.bit (n + i)) }

pub bits_append : {xs ys : List ℕ} → Bits xs → Bits ys → Bits (xs ++ ys)
bits_append {xs} {ys} hx hy = record { bit = go xs hx }
  where
    go : (xs : List ℕ) → Bits xs → (i : ℕ) → get_or (xs ++ ys) i 0 < 2
    go [] hx i = hy.bit i
    go (x ∷ xs) hx zero = hx.bit 0
    go (x ∷ xs) hx (suc i) = go xs (after_first hx) i

pub length_bits : (w x : ℕ) → length (bits w x) ≡ w
unfolding bits
length_bits zero x = refl
length_bits (suc w) x = ap suc (length_bits w x)

pub bits_bits : (w x : ℕ) → Bits (bits w x)
unfolding bits
bits_bits w x = record { bit = go w }
  where
    go : (w i : ℕ) → get_or (bits w x) i 0 < 2
    go zero i = omega arith
    go (suc w) zero = mod-lt _ (lit< tt)
    go (suc w) (suc i) = go w i

-- one more bit at the end
number_snoc : (bs : List ℕ) (b : ℕ) → number (bs ++ b ∷ []) ≡ number bs * 2 + b
unfolding number
number_snoc [] b = omega arith
number_snoc (c ∷ bs) b =
    let longer : c * 2 ^ length (bs ++ b ∷ []) ≡ c * 2 ^ length bs * 2 = rw (length-append, add-one, pow-suc, ← mul_assoc) in
    omega (arith, number_snoc bs b)

-- the next bit of a field
number_next :
    (bs : List ℕ) (o k : ℕ) → o + k < length bs → number (take (k + 1) (drop o bs)) ≡ number (take k (drop o bs)) * 2 + get_or bs (o + k) 0
number_next bs o k h = rw (add-one, take-suc (drop o bs) k 0 (simp length-drop (omega arith)), number_snoc, get_or-drop)

number_lt : (bs : List ℕ) → Bits bs → number bs < 2 ^ length bs
unfolding number
number_lt [] h = omega arith
number_lt (b ∷ bs) h = rw pow-succ' (digits_lt (h.bit 0) (number_lt bs (after_first h)))

-- a field of bits holds a number of its width
pub number_fits : (bs : List ℕ) (o k w : ℕ) → Bits bs → k ≤ w → number (take k (drop o bs)) < 2 ^ w
number_fits bs o k w h short =
    lt_of_lt_of_le
    (number_lt (take k (drop o bs)) (bits_take k (drop o bs) (bits_drop o bs h)))
    (pow_mono (rw length-take (omega arith)))

-- the number of a field's bits is what of a number fits the field
pub number_bits : (w x : ℕ) → number (bits w x) ≡ x % 2 ^ w
unfolding bits number
number_bits zero x = sym (mod-one x)
number_bits (suc w) x =
    ap₂ (λ n m. x / 2 ^ w % 2 * 2 ^ n + m) (length_bits w x) (number_bits w x) ∙ sym (rw pow-succ' (mod-mul x (lit< tt) (pow_pos w)))

-- bits that stand for the same number are the same
number_inj : (xs ys : List ℕ) → Bits xs → Bits ys → length xs ≡ length ys → number xs ≡ number ys → xs ≡ ys
unfolding number
number_inj [] [] hx hy l e = refl
number_inj [] (y ∷ ys) hx hy l e = absurd (omega (arith, l))
number_inj (x ∷ xs) [] hx hy l e = absurd (omega (arith, l))
number_inj (x ∷ xs) (y ∷ ys) hx hy l e =
    let same : length xs ≡ length ys = omega (arith, l) in
    let small : number ys < 2 ^ length xs = rw same (number_lt ys (after_first hy)) in
    let joined : x * 2 ^ length xs + number xs ≡ y * 2 ^ length xs + number ys = e ∙ ap (λ n. y * 2 ^ n + number ys) (sym same) in
    let small_too = number_lt xs (after_first hx) in
    let heads = sym (digits_div x small_too) ∙ ap (λ n. n / 2 ^ length xs) joined ∙ digits_div y small in
    let tails = sym (digits_mod x small_too) ∙ ap (λ n. n % 2 ^ length xs) joined ∙ digits_mod y small in
    ap₂ ◌∷◌ heads (number_inj xs ys (after_first hx) (after_first hy) same tails)

-- the bits of the number that bits stand for are these bits
bits_number : (bs : List ℕ) → Bits bs → bits (length bs) (number bs) ≡ bs
bits_number bs h =
    number_inj _ bs (bits_bits _ _) h (length_bits _ _) (number_bits _ _ ∙ mod-eq_of_lt (number_lt bs h))

-- the bits of a field's number are the field
pub bits_field : (w : ℕ) (bs : List ℕ) → w ≤ length bs → Bits bs → bits w (number (take w bs)) ≡ take w bs
bits_field w bs enough h =
    ap (λ k. bits k (number (take w bs))) (sym (length-take-le w bs enough)) ∙ bits_number (take w bs) (bits_take w bs h)

-- a number's bits by position
bit_at : (w x r : ℕ) → r < w → get_or (bits w x) r 0 ≡ x / 2 ^ (w - 1 - r) % 2
unfolding bits
bit_at zero x r h = absurd (omega arith)
bit_at (suc w) x zero h = ap (λ n. x / 2 ^ n % 2) (omega arith)
bit_at (suc w) x (suc r) h = bit_at w x r (omega arith) ∙ ap (λ n. x / 2 ^ n % 2) (omega arith)

pub length_flat : (w : ℕ) (xs : List ℕ) → length (flat_map (bits w) xs) ≡ w * length xs
unfolding flat_map
length_flat w [] = omega arith
length_flat w (x ∷ xs) = rw (length-append, length_bits, length_flat w xs) (omega (arith, mul-suc w (length xs)))

-- the bits of fields by position
flat_at :
    (w : ℕ) (xs : List ℕ) (q r : ℕ) → r < w → get_or (flat_map (bits w) xs) (w * q + r) 0 ≡ get_or xs q 0 / 2 ^ (w - 1 - r) % 2
unfolding flat_map
flat_at w [] q r h = sym (ap (λ n. n % 2) (zero-div (2 ^ (w - 1 - r))))
flat_at w (x ∷ xs) zero r h =
    let start : w * 0 + r ≡ r = omega arith in
    rw start (get_or-append (bits w x) _ 0 r (rw length_bits h) ∙ bit_at w x r h)
flat_at w (x ∷ xs) (suc q) r h =
    let later : w * suc q + r ≡ length (bits w x) + (w * q + r) = rw length_bits (omega (arith, mul-suc w q)) in
    rw later (get_or-append-add (bits w x) _ (w * q + r) 0 ∙ flat_at w xs q r h)

-- the same at any position
pub flat_digit :
    (w : ℕ) (xs : List ℕ) (i : ℕ) → 0 < w → get_or (flat_map (bits w) xs) i 0 ≡ get_or xs (i / w) 0 / 2 ^ (w - 1 - i % w) % 2
flat_digit w xs i some =
    ap (λ n. get_or (flat_map (bits w) xs) n 0) (sym (div-add-mod i w)) ∙ flat_at w xs (i / w) (i % w) (mod-lt i some)

pub bits_flat : (w : ℕ) (xs : List ℕ) → 0 < w → Bits (flat_map (bits w) xs)
bits_flat w xs some = record { bit = λ i. rw (flat_digit w xs i some) (mod-lt _ (lit< tt)) }

-- a field before other bits, and the bits after it
pub field_digit : (w x : ℕ) (rest : List ℕ) (i : ℕ) → i < w → get_or (bits w x ++ rest) i 0 ≡ x / 2 ^ (w - 1 - i) % 2
field_digit w x rest i h = get_or-append (bits w x) rest 0 i (rw length_bits h) ∙ bit_at w x i h

pub after_field : (w x : ℕ) (rest : List ℕ) (i : ℕ) → w ≤ i → get_or (bits w x ++ rest) i 0 ≡ get_or rest (i - w) 0
after_field w x rest i h =
    let there : i ≡ length (bits w x) + (i - w) = rw length_bits (omega arith) in
    ap (λ n. get_or (bits w x ++ rest) n 0) there ∙ get_or-append-add (bits w x) rest (i - w) 0

pub length_fields : (w n : ℕ) (bs : List ℕ) → length (fields w n bs) ≡ n
unfolding fields
length_fields w zero bs = refl
length_fields w (suc n) bs = ap suc (length_fields w n (drop w bs))

-- fields by their places
pub fields_are : (w n : ℕ) (bs : List ℕ) → tabulate n (λ k. number (take w (drop (w * k) bs))) ≡ fields w n bs
unfolding fields tabulate
fields_are w zero bs = refl
fields_are w (suc n) bs =
    let start : w * 0 ≡ 0 = omega arith in
    let later : (k : ℕ) → w * suc k ≡ w + w * k = λ k. omega (arith, mul-suc w k) in
    ap₂ ◌∷◌
    (ap (λ k. number (take w (drop k bs))) start)
    (ap (tabulate n) (fun_ext (λ k. ap (λ l. number (take w l)) (ap (λ i. drop i bs) (later k) ∙ sym (drop-drop (w * k) w bs)))) ∙ fields_are w n (drop w bs))

-- fields of bits, taken apart again
pub flat_fields : (w n : ℕ) (bs : List ℕ) → w * n ≤ length bs → Bits bs → flat_map (bits w) (fields w n bs) ≡ take (w * n) bs
unfolding flat_map fields
flat_fields w zero bs enough h =
    let none : 0 ≡ w * 0 = omega arith in
    ap (λ k. take k bs) none
flat_fields w (suc n) bs enough h =
    let more : w + w * n ≡ w * suc n = omega (arith, mul-suc w n) in
    let rest : w * n ≤ length (drop w bs) = rw length-drop (omega arith) in
    ap₂ ◌++◌ (bits_field w bs (omega arith) h) (flat_fields w n (drop w bs) rest (bits_drop w bs h))
    ∙ sym (take-add w (w * n) bs)
    ∙ ap (λ k. take k bs) more

-- the fields that numbers were put into
pub fields_flat :
    (w : ℕ) (xs rest : List ℕ)
    → ((i : ℕ) → get_or xs i 0 < 2 ^ w)
    → fields w (length xs) (flat_map (bits w) xs ++ rest) ≡ xs
unfolding flat_map fields
fields_flat w [] rest h = refl
fields_flat w (x ∷ xs) rest h =
    rw append_assoc
    (ap₂ ◌∷◌
    (ap number (take_at (bits w x) _ w (length_bits w x)) ∙ number_bits w x ∙ mod-eq_of_lt (h 0))
    (ap (fields w (length xs)) (drop_at (bits w x) _ w (length_bits w x)) ∙ fields_flat w xs rest (λ i. h (suc i))))

-- A field that is read bit by bit: x is the number of its first k bits, and b the next bit.
module _
    (bs : List ℕ)
    (o k x b : ℕ)
    (so_far : x ≡ number (take k (drop o bs)))
    (next : b ≡ get_or bs (o + k) 0)
    (inside : o + k < length bs)
  where
    pub field_next : x * 2 + b ≡ number (take (k + 1) (drop o bs))
    field_next = rw (so_far, next) (sym (number_next bs o k inside))

    pub field_fits : (w : ℕ) → Bits bs → k < w → x * 2 + b < 2 ^ w
    field_fits w h short = rw field_next (number_fits bs o (k + 1) w h (omega arith))
