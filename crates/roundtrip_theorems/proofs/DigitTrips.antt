-- A number written in digits and read back, and digits read and written again.
-- Assumes nothing.
use Prim.Native.Nat.{ℕ, zero, suc, ◌+◌, ◌-◌, ◌*◌, ◌/◌, ◌%◌, ◌^◌, ◌≤◌, ◌<◌}
use mathlib.Core.Path.{◌≡◌, refl, sym, ap, ap₂, ◌∙◌}
use mathlib.Core.Bool.{true, ◌&&◌, and-eq-true_iff}
use mathlib.Core.List.{List, [], ◌∷◌, ◌++◌, foldl, foldl-append, append_assoc, append-nil}
use native.Mathlib.Nat.{pow-suc, pow-succ', div-div-eq-div-mul, div-eq_of_lt, mul-le-mul_right, add-zero, zero-add}
use native.Mathlib.Decide.{dec_le}
use native.Mathlib.Omega.{arith}
use lib.Dec.{leb}
use lib.ListN.{length}
use borrow.Author.Tests.{le-leb, leb-true}
use Rattle.decimal.specs.Decimal.{last_digits, digit_count, decimal_text}
use Rattle.decimal.proofs.DecimalLaws.{count-some, count_most, count-least, count-covers, length_last}
use Rattle.decimal.proofs.DigitTexts.{Digits}
use Rattle.nmea_sentence.specs.Digits.{all_digits, next_digit, decimal}
use Rattle.nmea_sentence.proofs.DigitLaws.{decimal-below}

-- ---- digits

-- as `decimal` says it, and as `nmea_sentence` does
pub all_digits_lem : (s : List ℕ) → Digits s → all_digits s ≡ true
unfolding all_digits
all_digits_lem [] d = refl
all_digits_lem (b ∷ s) d = simp (le-leb 0x30 b d.0.0, le-leb b 0x39 d.0.1, all_digits_lem s d.1)

-- a first digit, and those after it
first_of : (b : ℕ) (s : List ℕ) → all_digits (b ∷ s) ≡ true → (0x30 ≤ b) × (b ≤ 0x39) × (all_digits s ≡ true)
unfolding all_digits
first_of b s e =
    let t = (and-eq-true_iff (leb 0x30 b && leb b 0x39) (all_digits s)).0 e in
    let u = (and-eq-true_iff (leb 0x30 b) (leb b 0x39)).0 t.0 in
    (leb-true 0x30 b u.0, leb-true b 0x39 u.1, t.1)

-- ---- read after written

-- what stands before the digits is the number without them
read-last : (k n : ℕ) → foldl next_digit (n / 10 ^ k) (last_digits k n) ≡ n
unfolding last_digits
read-last zero n = omega arith
read-last (suc k) n =
    foldl-append next_digit (n / 10 ^ suc k) (last_digits k (n / 10)) ((0x30 + n % 10) ∷ [])
    ∙ ap (λ (m : ℕ). next_digit (foldl next_digit m (last_digits k (n / 10))) (0x30 + n % 10)) (ap (λ (m : ℕ). n / m) (pow-succ' 10 k) ∙ sym (div-div-eq-div-mul n 10 (10 ^ k)))
    ∙ ap (λ (m : ℕ). next_digit m (0x30 + n % 10)) (read-last k (n / 10))
    ∙ (let h : next_digit (n / 10) (0x30 + n % 10) ≡ n = omega arith in h)

carry : (a d p x : ℕ) → (a * 10 + d) * p + x ≡ a * (p * 10) + (d * p + x)
carry a d p x = omega arith

first-digit : (b : ℕ) (s : List ℕ) → foldl next_digit (b - 0x30) s ≡ decimal (b ∷ s)
unfolding decimal
first-digit b s = ap (λ (m : ℕ). foldl next_digit m s) (let z : b - 0x30 ≡ next_digit 0 b = omega arith in z)

-- digits after a number count below it
after-number : (a : ℕ) (s : List ℕ) → foldl next_digit a s ≡ a * 10 ^ length s + decimal s
unfolding decimal
after-number a [] = omega arith
after-number a (b ∷ s) =
    after-number (next_digit a b) s
    ∙ carry a (b - 0x30) (10 ^ length s) (decimal s)
    ∙ ap₂ (λ (x y : ℕ). a * x + y) (sym (pow-suc 10 (length s))) (sym (after-number (b - 0x30) s) ∙ first-digit b s)

-- ---- written after read

-- after the last j digits of a, those of s
written_after : (j a : ℕ) (s : List ℕ) → all_digits s ≡ true → last_digits (j + length s) (foldl next_digit a s) ≡ last_digits j a ++ s
unfolding all_digits last_digits
written_after j a [] e = ap (λ (k : ℕ). last_digits k a) (add-zero j) ∙ sym (append-nil (last_digits j a))
written_after j a (b ∷ s) e =
    let f = first_of b s e in
    let n : j + suc (length s) ≡ suc j + length s = omega arith in
    let q : next_digit a b / 10 ≡ a = omega arith in
    let r : 0x30 + next_digit a b % 10 ≡ b = omega arith in
    ap (λ (k : ℕ). last_digits k (foldl next_digit (next_digit a b) s)) n
    ∙ written_after (suc j) (next_digit a b) s f.2
    ∙ append_assoc (last_digits j (next_digit a b / 10)) ((0x30 + next_digit a b % 10) ∷ []) s
    ∙ ap₂ (λ (x y : ℕ). last_digits j x ++ y ∷ s) q r

module _ (s : List ℕ) (e : all_digits s ≡ true) where
  ending : (a : ℕ) → last_digits (length s) (foldl next_digit a s) ≡ s
  unfolding last_digits
  ending a = rw (zero-add (length s)) at (written_after 0 a s e)

  -- the digits of the number that they are
  pub written_all : last_digits (length s) (decimal s) ≡ s
  unfolding decimal
  written_all = ending 0

  -- the last digits of a number that ends with them
  pub written_last : (a : ℕ) → last_digits (length s) (a * 10 ^ length s + decimal s) ≡ s
  written_last a = rw (after-number a s) at (ending a)

-- ---- all the digits of a number

-- the number without its last digits, and those
pub decimals-split : (d n : ℕ) → n / 10 ^ d * 10 ^ d + decimal (last_digits d n) ≡ n
decimals-split d n = (rw (length_last d n) at (sym (after-number (n / 10 ^ d) (last_digits d n)))) ∙ read-last d n

pub text-decimal : (n : ℕ) → decimal (decimal_text n) ≡ n
unfolding decimal_text
text-decimal n =
    let z : n / 10 ^ digit_count n ≡ 0 = div-eq_of_lt (count-covers n) in
    omega (arith, rw z at (decimals-split (digit_count n) n))

-- ---- the first digit

decimal-cons : (b : ℕ) (s : List ℕ) → decimal (b ∷ s) ≡ (b - 0x30) * 10 ^ length s + decimal s
decimal-cons b s = sym (first-digit b s) ∙ after-number (b - 0x30) s

module _ (b : ℕ) (s : List ℕ) (e : all_digits (b ∷ s) ≡ true) where
  -- a number that has all its digits does not begin with 0
  pub leading : 10 ^ length s ≤ decimal (b ∷ s) → b ≡ 0x30 → ⊥
  leading h z =
      let c : decimal (b ∷ s) ≡ 0 * 10 ^ length s + decimal s = decimal-cons b s ∙ ap (λ (d : ℕ). (d - 0x30) * 10 ^ length s + decimal s) z in
      omega (arith, decimal-below s (first_of b s e).2)

  -- a first digit other than 0 counts one of its power of ten, or more
  reaches : (b ≡ 0x30 → ⊥) → 10 ^ length s ≤ decimal (b ∷ s)
  reaches n =
      let f = (first_of b s e).0 in
      let m : 1 * 10 ^ length s ≤ (b - 0x30) * 10 ^ length s = mul-le-mul_right (10 ^ length s) (omega arith) in
      omega (arith, decimal-cons b s)

  -- a text that does not begin with 0, or is one digit, has as many as its number
  pub count-text : (0 < length s → b ≡ 0x30 → ⊥) → digit_count (decimal (b ∷ s)) ≡ suc (length s)
  count-text h =
      let m = count_most (length s) (decimal (b ∷ s)) (decimal-below (b ∷ s) e) in
      let l = go (dec_le 1 (length s)) in
      omega arith
    where
      go : Dec (1 ≤ length s) → length s < digit_count (decimal (b ∷ s))
      go (yes p) = count-least (length s) (decimal (b ∷ s)) (reaches (h p))
      go (no p) = omega (arith, count-some (decimal (b ∷ s)))
