-- What `digits_of s ≡ Some n` says, for callers; and the walk through the digits of a number.
-- Assumes nothing.
use mathlib.Core.Path.{◌≡◌, refl, sym, ap, ap₂, subst, ◌∙◌}
use mathlib.Core.Bool.{Bool, true, false, cond, ◌&&◌}
use mathlib.Core.List.{List, [], ◌∷◌, foldl}
use Prim.Native.Nat.{ℕ, suc, ◌+◌, ◌*◌, ◌^◌, ◌<◌, ◌≤◌}
use native.Mathlib.Nat.{mul_assoc, mul_comm, pow-suc, pow-le-pow_right, lt_of_lt_of_le}
use native.Mathlib.Numerals.{add-one}
use native.Mathlib.Omega.{arith}
use lib.Dec.{T, leb, leb→le}
use lib.Ieee.Fits.{and_l, and_r}
use lib.ListN.{length, get_or, drop, drop_of_length-le}
use lib.Seq.{drop-cons}
use borrow.Author.Tests.{le-leb, lt-leb}
use Rattle.nmea_sentence.specs.Digits.{all_digits, next_digit, decimal, digits_of}
use Rattle.std.specs.Prelude.{Some, None}

-- s is up to nine digits that write n
pub record Written (s : List ℕ) (n : ℕ) : Type 0 where
  pub digits : all_digits s ≡ true
  pub value : decimal s ≡ n
  pub few : length s ≤ 9

pub written : (s : List ℕ) (n : ℕ) → digits_of s ≡ Some n → Written s n
unfolding digits_of
written s n e =
    let w = both (leb (length s) 9) (all_digits s) e in
    record { digits = w.1; value = w.2; few = leb→le (length s) 9 (subst T (sym w.0) tt) }
  where
    both : (t u : Bool) → cond (t && u) (Some (decimal s)) None ≡ Some n → (t ≡ true) × (u ≡ true) × (decimal s ≡ n)
    both true true h = (refl, refl, cc)
    both true false h = cc
    both false u h = cc

pub reads : (s : List ℕ) (n : ℕ) → Written s n → Some n ≡ digits_of s
unfolding digits_of
reads s n w =
    ap Some (sym w.value)
    ∙ ap₂ (λ (x y : Bool). cond (x && y) (Some (decimal s)) None) (sym (le-leb (length s) 9 w.few)) (sym w.digits)

-- each digit is below ten: what begins below m ends below m times ten to the count of digits
below : (s : List ℕ) (n m : ℕ) → T (all_digits s) → n < m → foldl next_digit n s < m * 10 ^ length s
unfolding all_digits
below [] n m t h = omega arith
below (b ∷ s) n m t h =
    let d = leb→le b 0x39 (and_r (leb 0x30 b) (leb b 0x39) (and_l (leb 0x30 b && leb b 0x39) (all_digits s) t)) in
    let u = below s (next_digit n b) (m * 10) (and_r (leb 0x30 b && leb b 0x39) (all_digits s) t) (omega arith) in
    let p : 10 * 10 ^ length s ≡ 10 ^ suc (length s) = mul_comm 10 (10 ^ length s) ∙ sym (pow-suc 10 (length s)) in
    subst (λ (k : ℕ). foldl next_digit (next_digit n b) s < k) (mul_assoc m 10 (10 ^ length s) ∙ ap (λ (k : ℕ). m * k) p) u

pub decimal-below : (s : List ℕ) → all_digits s ≡ true → decimal s < 10 ^ length s
unfolding decimal
decimal-below s e = let b = below s 0 1 (subst T (sym e) tt) (omega arith) in omega arith

pub digits-below : (s : List ℕ) (n : ℕ) → digits_of s ≡ Some n → n < 10 ^ length s
digits-below s n e = let w = written s n e in rw w.value at (decimal-below s w.digits)

-- a number of at most j digits
pub few-digits : (s : List ℕ) (n j : ℕ) → Some n ≡ digits_of s → length s ≤ j → n < 10 ^ j
few-digits s n j e h = lt_of_lt_of_le (digits-below s n (sym e)) (pow-le-pow_right {n = 10} (omega arith) h)

-- the walk: the first i bytes of s are digits, and write n
pub record Read (s : List ℕ) (n i : ℕ) : Type 0 where
  pub within : i ≤ length s
  pub few : length s ≤ 9
  pub small : n < 10 ^ i
  pub good : all_digits s ≡ all_digits (drop i s)
  pub value : foldl next_digit n (drop i s) ≡ decimal s

no-digits : (s : List ℕ) → all_digits s ≡ false → None ≡ digits_of s
unfolding digits_of
no-digits s e = go (leb (length s) 9) ∙ ap (λ (t : Bool). cond (leb (length s) 9 && t) (Some (decimal s)) None) (sym e)
  where
    go : (t : Bool) → None ≡ cond (t && false) (Some (decimal s)) None
    go true = refl
    go false = refl

module _ (s : List ℕ) where
  pub long : 9 < length s → None ≡ digits_of s
  unfolding digits_of
  long h = simp (lt-leb (length s) 9 h)

  pub start : length s ≤ 9 → Read s 0 0
  unfolding decimal
  start h = record { within = omega arith; few = h; small = omega arith; good = refl; value = refl }

  module _ (n i : ℕ) (r : Read s n i) where
    module _ (h : i < length s) where
      -- ten times n, and a digit, still fits
      pub out : n * 10 + 10 ≤ 1000000000
      out =
          let m : 10 ^ suc i ≤ 10 ^ 9 = pow-le-pow_right {n = 10} (omega arith) {i = suc i} {j = 9} (let f = r.few in omega arith) in
          let e = pow-suc 10 i in
          let k = r.small in
          omega arith

      opened : all_digits (drop i s) ≡ ((leb 0x30 (get_or s i 0) && leb (get_or s i 0) 0x39) && all_digits (drop (i + 1) s))
      unfolding all_digits
      opened = rw (add-one, drop-cons s i 0 h)

      pub turn : 0x30 ≤ get_or s i 0 → get_or s i 0 ≤ 0x39 → Read s (next_digit n (get_or s i 0)) (i + 1)
      turn a b = record {
        within = omega arith;
        few = r.few;
        small = let e : 10 ^ (i + 1) ≡ 10 ^ i * 10 = ap (λ (k : ℕ). 10 ^ k) (add-one i) ∙ pow-suc 10 i in let k = r.small in omega arith;
        good = r.good ∙ opened ∙ simp (le-leb 0x30 (get_or s i 0) a, le-leb (get_or s i 0) 0x39 b);
        value = rw add-one (sym (ap (foldl next_digit n) (drop-cons s i 0 h)) ∙ r.value);
      }

      pub low : get_or s i 0 < 0x30 → None ≡ digits_of s
      low a = no-digits s (r.good ∙ opened ∙ simp (lt-leb 0x30 (get_or s i 0) a))

      pub high : 0x30 ≤ get_or s i 0 → 0x39 < get_or s i 0 → None ≡ digits_of s
      high a b = no-digits s (r.good ∙ opened ∙ simp (le-leb 0x30 (get_or s i 0) a, lt-leb (get_or s i 0) 0x39 b))

    pub done : length s ≤ i → Some n ≡ digits_of s
    unfolding all_digits
    done h =
        let e = drop_of_length-le s h in
        reads s n (record { digits = r.good ∙ ap all_digits e; value = sym r.value ∙ ap (foldl next_digit n) e; few = r.few })
