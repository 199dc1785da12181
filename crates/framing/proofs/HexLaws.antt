-- Hexadecimal digits, both ways: the digit of a value is one and has that value; the value of a digit is below 16 and has that digit.
-- Assumes nothing.
use Rattle.std.proofs.Common.{◌≡◌, ℕ, ◌+◌, ◌-◌, ◌<◌, ◌≤◌, Bool, true, false, ◌&&◌, ◌||◌, T, leb, arith, leb→le, le-leb}
use native.Mathlib.Decide.{dec_le}
use borrow.Author.Tests.{lt-leb}
use Rattle.framing.specs.Nmea.{hex_digit, hex_value}
use Rattle.numbers.specs.Hex.{hex_digit_of}
use lib.Ieee.Fits.{and_l, and_r}

-- ---- the digit of a value

pub value-of-digit : (n : ℕ) → n < 16 → hex_value (hex_digit_of n) ≡ n
unfolding hex_value hex_digit_of
value-of-digit n h = go (dec_le n 9)
  where
    go : Dec (n ≤ 9) → hex_value (hex_digit_of n) ≡ n
    go (yes p) = rw (le-leb n 9 p, le-leb (0x30 + n) 0x39 (omega arith)) (omega arith)
    go (no p) = rw (lt-leb n 9 (omega arith), lt-leb (0x37 + n) 0x39 (omega arith)) (omega arith)

pub digit-is : (n : ℕ) → n < 16 → T (hex_digit (hex_digit_of n))
unfolding hex_digit_of
digit-is n h = go (dec_le n 9)
  where
    go : Dec (n ≤ 9) → T (hex_digit (hex_digit_of n))
    go (yes p) = rw (le-leb n 9 p, le-leb 0x30 (0x30 + n) (omega arith), le-leb (0x30 + n) 0x39 (omega arith)) tt
    go (no p) =
        rw (
          lt-leb n 9 (omega arith),
          le-leb 0x30 (0x37 + n) (omega arith),
          lt-leb (0x37 + n) 0x39 (omega arith),
          le-leb 0x41 (0x37 + n) (omega arith),
          le-leb (0x37 + n) 0x46 (omega arith),
        ) tt

-- ---- the value of a digit

-- 0 to 9, and A to F above them
record Digit (b : ℕ) : Type 0 where
  least : 0x30 ≤ b
  most : b ≤ 0x46
  apart : 0x39 < b → 0x41 ≤ b

digit-bounds : (b : ℕ) → T (hex_digit b) → Digit b
digit-bounds b h = pick (leb 0x30 b && leb b 0x39) (λ t. t) h
  where
    between : (l n : ℕ) → T (leb l b && leb b n) → (l ≤ b) × (b ≤ n)
    between l n t = (leb→le l b (and_l (leb l b) (leb b n) t), leb→le b n (and_r (leb l b) (leb b n) t))

    pick : (t : Bool) → (T t → T (leb 0x30 b && leb b 0x39)) → T (t || leb 0x41 b && leb b 0x46) → Digit b
    pick true f u = let r = between 0x30 0x39 (f tt) in record { least = omega arith; most = omega arith; apart = λ g. omega arith }
    pick false f u = let r = between 0x41 0x46 u in record { least = omega arith; most = omega arith; apart = λ g. omega arith }

pub value-below : (b : ℕ) → T (hex_digit b) → hex_value b < 16
unfolding hex_value
value-below b h = go (digit-bounds b h) (dec_le b 0x39)
  where
    go : Digit b → Dec (b ≤ 0x39) → hex_value b < 16
    go d (yes p) = rw (le-leb b 0x39 p) (omega arith)
    go d (no p) = rw (lt-leb b 0x39 (omega arith)) (omega arith)

pub digit-of-value : (b : ℕ) → T (hex_digit b) → hex_digit_of (hex_value b) ≡ b
unfolding hex_value hex_digit_of
digit-of-value b h = go (digit-bounds b h) (dec_le b 0x39)
  where
    go : Digit b → Dec (b ≤ 0x39) → hex_digit_of (hex_value b) ≡ b
    go d (yes p) = rw (le-leb b 0x39 p, le-leb (b - 0x30) 9 (omega arith)) (omega arith)
    go d (no p) =
        let l = d.apart (omega arith) in
        rw (lt-leb b 0x39 (omega arith), lt-leb (b - 0x37) 9 (omega arith)) (omega arith)
