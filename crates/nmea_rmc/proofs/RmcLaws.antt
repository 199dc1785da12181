-- What the forms of a time and a date say of each byte; and that a status has one of the two letters.
-- Assumes nothing.
use mathlib.Core.Path.{◌≡◌, refl, sym, subst}
use mathlib.Core.Bool.{Bool, true, false, cond, ◌&&◌, ◌||◌}
use mathlib.Core.List.{List, [], ◌∷◌}
use Prim.Native.Nat.{ℕ, zero, suc, ◌+◌, ◌<◌, ◌≤◌}
use native.Mathlib.Omega.{arith}
use lib.Dec.{T, leb, eqb, leb→le, eqb→eq}
use lib.Ieee.Fits.{and_l, and_r}
use lib.ListN.{length, get_or, take, drop}
use lib.Seq.{take_all, get_or-take, length-take-le}
use borrow.Author.Tests.{le-leb}
use Rattle.std.specs.Prelude.{Some, None, is_some}
use Rattle.nmea_sentence.specs.Digits.{all_digits, decimal, digits_of}
use Rattle.nmea_rmc.specs.Rmc.{is_time, is_date, letter}
use Rattle.nmea_rmc.specs.declared.rmc.Status.{Status}
use Rattle.nmea_rmc.specs.declared.rmc.Status.TheVariants.{Valid, Warning}

-- ---- digits

-- so few bytes are digits where they write a number
pub digits-some : (s : List ℕ) → length s ≤ 9 → is_some (digits_of s) ≡ all_digits s
unfolding digits_of
digits-some s h = rw (le-leb (length s) 9 h) (go (all_digits s))
  where
    go : (t : Bool) → is_some (cond t (Some (decimal s)) None) ≡ t
    go true = refl
    go false = refl

pub record Digit (b : ℕ) : Type 0 where
  pub low : 0x30 ≤ b
  pub high : b ≤ 0x39

digit_at : (s : List ℕ) (i : ℕ) → T (all_digits s) → i < length s → Digit (get_or s i 0)
unfolding all_digits
digit_at [] i t h = absurd (omega arith)
digit_at (b ∷ s) zero t h =
    let u = and_l (leb 0x30 b && leb b 0x39) (all_digits s) t in
    record {
      low = leb→le 0x30 b (and_l (leb 0x30 b) (leb b 0x39) u);
      high = leb→le b 0x39 (and_r (leb 0x30 b) (leb b 0x39) u);
    }
digit_at (b ∷ s) (suc i) t h = digit_at s i (and_r (leb 0x30 b && leb b 0x39) (all_digits s) t) (omega arith)

-- two of the first six bytes, where these are digits
pub two_digits : (s : List ℕ) (i : ℕ) → (i ≤ 4) × ((6 ≤ length s) × T (all_digits (take 6 s))) → Digit (get_or s i 0) × Digit (get_or s (i + 1) 0)
two_digits s i p = (one i (omega arith), one (i + 1) (omega arith))
  where
    one : (j : ℕ) → j < 6 → Digit (get_or s j 0)
    one j h = rw get_or-take at (digit_at (take 6 s) j p.1.1 (rw (length-take-le 6 s p.1.0) h))

-- ---- a time and a date begin with six digits

module _ (s : List ℕ) where
  pub time-digits : is_time s ≡ true → (6 ≤ length s) × T (all_digits (take 6 s))
  unfolding is_time
  time-digits e =
      let a = eqb (length s) 9 in
      let b = eqb (get_or s 6 0) 0x2E in
      let t = and_l (a && b && all_digits (take 6 s)) (all_digits (drop 7 s)) (subst T (sym e) tt) in
      let n = eqb→eq (length s) 9 (and_l a b (and_l (a && b) (all_digits (take 6 s)) t)) in
      (omega arith, and_r (a && b) (all_digits (take 6 s)) t)

  pub date-digits : is_date s ≡ true → (6 ≤ length s) × T (all_digits (take 6 s))
  unfolding is_date
  date-digits e =
      let t : T (eqb (length s) 6 && all_digits s) = subst T (sym e) tt in
      let n = eqb→eq (length s) 6 (and_l (eqb (length s) 6) (all_digits s) t) in
      (omega arith, rw (take_all 6 s (omega arith)) (and_r (eqb (length s) 6) (all_digits s) t))

-- ---- a status

pub is-letter : (x : Status) → eqb (letter x) 0x41 || eqb (letter x) 0x56 ≡ true
is-letter Valid = refl
is-letter Warning = refl
