-- Set bits: of a number, counted bit by bit; and of the six status bytes, byte by byte.
-- Assumes nothing.
use Rattle.std.proofs.Common.{◌≡◌, ℕ, zero, suc, ◌+◌, ◌*◌, ◌/◌, ◌%◌, ◌^◌, ◌<◌, ◌≤◌, List, get_or, sym, refl, ap, ◌∙◌, lt_of_lt_of_le, add-zero, add-suc, mod-lt, mod-eq_of_lt, one-add, arith, pow_pos, pow_mono}
use native.Mathlib.Nat.{mod-one}
use lib.Pow.{mod-pow-add}
use lib.Count.{ones_in, ones, ones_cat}
use Rattle.onflight.specs.Status.{sum_below, bit_at, set_bits}
use Rattle.onflight.specs.Private.{bits_of}

one_bit : (d : ℕ) → d < 2 → ones d ≡ d
unfolding ones_in ones
one_bit zero h = refl
one_bit (suc zero) h = refl
one_bit (suc (suc d)) h = absurd (omega arith)

-- the k low bits of n are the bits of its remainder by 2 ^ k
low_ones : (k n : ℕ) → ones (n % 2 ^ k) ≡ bits_of k n
unfolding ones sum_below bits_of
low_ones zero n = ap ones (mod-one n)
low_ones (suc k) n =
    let top : n % 2 ^ suc k ≡ n / 2 ^ k % 2 * 2 ^ k + n % 2 ^ k = rw one-add at (mod-pow-add n 1 k) in
    let apart = ones_cat k (n / 2 ^ k % 2) (n % 2 ^ k) (mod-lt n (pow_pos k)) in
    omega (arith, ap ones top, apart, one_bit (n / 2 ^ k % 2) (omega arith), low_ones k n)

-- a number of k bits
pub ones-bits : (k n : ℕ) → n < 2 ^ k → ones n ≡ bits_of k n
ones-bits k n h = ap ones (sym (mod-eq_of_lt h)) ∙ low_ones k n

-- of a remainder by 2 ^ k only the k low bits can be set
low_bits : (k m n : ℕ) → k ≤ m → bits_of m (n % 2 ^ k) ≡ bits_of k n
low_bits k m n h = sym (ones-bits m (n % 2 ^ k) (lt_of_lt_of_le (mod-lt n (pow_pos k)) (pow_mono h))) ∙ low_ones k n

module _ (s : List ℕ) where
  -- the bits of the first j bytes, and n more of the byte after them
  byte-bits : (j n : ℕ) → n ≤ 8 → sum_below (bit_at s) (j * 8 + n) ≡ sum_below (bit_at s) (j * 8) + bits_of n (get_or s j 0)
  unfolding sum_below bits_of bit_at
  byte-bits j zero h = omega (arith, ap (sum_below (bit_at s)) (add-zero (j * 8)))
  byte-bits j (suc n) h =
      let at : (j * 8 + n) / 8 ≡ j = omega arith in
      let bit : (j * 8 + n) % 8 ≡ n = omega arith in
      rw (add-suc, at, bit) (omega (arith, byte-bits j n (omega arith)))

  -- five bytes, and of the sixth the remainder by 4
  pub set-bits-sum : set_bits s
      ≡ bits_of 8 (get_or s 0 0) + bits_of 8 (get_or s 1 0) + bits_of 8 (get_or s 2 0) + bits_of 8 (get_or s 3 0) + bits_of 8 (get_or s 4 0)
      + bits_of 8 (get_or s 5 0 % 4)
  unfolding sum_below set_bits
  set-bits-sum =
      let all : 8 ≤ 8 = omega arith in
      omega (
        arith,
        byte-bits 0 8 all,
        byte-bits 1 8 all,
        byte-bits 2 8 all,
        byte-bits 3 8 all,
        byte-bits 4 8 all,
        byte-bits 5 2 (omega arith),
        low_bits 2 8 (get_or s 5 0) (omega arith),
      )
