-- Bit steps of the CRC are linear over exclusive or, and shift out what is far enough up. So n steps on x are n steps on its n low digits, joined
-- to the rest: one table of 256 entries serves a byte.
-- Assumes nothing.
use Rattle.std.proofs.Common.{◌≡◌, ℕ, zero, suc, ◌*◌, ◌/◌, ◌%◌, ◌^◌, ◌<◌, sym, refl, ap, ◌∙◌, ap₂, mod-lt, arith, lit<, pow_pos}
use native.Mathlib.Nat.{div-eq_of_lt}
use lib.Pow.{split}
use lib.Bits.{bit_xor, differ, xor_zero_r, xor_self, xor_shr, xor_comm, xor_shifted, shifted_half, shifted_even}
use Rattle.checksum.specs.Crc.{if_set, bit_step, bit_steps, byte_step}
use Rattle.checksum.proofs.XorLaws.{xor-odd, xor-half, xor4}

if_set-differ : (p x y : ℕ) → x < 2 → y < 2 → if_set (differ x y) p ≡ bit_xor (if_set x p) (if_set y p)
if_set-differ p zero y hx hy = refl
if_set-differ p (suc x) zero hx hy = sym (xor_zero_r p)
if_set-differ p (suc zero) (suc zero) hx hy = sym (xor_self p)
if_set-differ p (suc zero) (suc (suc y)) hx hy = omega arith
if_set-differ p (suc (suc x)) (suc y) hx hy = omega arith

pub bit_step-xor : (a b : ℕ) → bit_step (bit_xor a b) ≡ bit_xor (bit_step a) (bit_step b)
unfolding bit_step
bit_step-xor a b =
    ap₂ (λ (x y : ℕ). bit_xor x (if_set y 0xEDB88320)) (xor-half a b) (xor-odd a b)
    ∙ ap (bit_xor (bit_xor (a / 2) (b / 2))) (if_set-differ 0xEDB88320 (a % 2) (b % 2) (mod-lt a (lit< tt)) (mod-lt b (lit< tt)))
    ∙ xor4 (a / 2) (b / 2) (if_set (a % 2) 0xEDB88320) (if_set (b % 2) 0xEDB88320)

pub bit_steps-xor : (n a b : ℕ) → bit_steps n (bit_xor a b) ≡ bit_xor (bit_steps n a) (bit_steps n b)
unfolding bit_steps
bit_steps-xor zero a b = refl
bit_steps-xor (suc n) a b = ap (bit_steps n) (bit_step-xor a b) ∙ bit_steps-xor n (bit_step a) (bit_step b)

-- n zero digits go by n shifts
pub bit_steps-shifted : (n h : ℕ) → bit_steps n (h * 2 ^ n) ≡ h
unfolding bit_steps bit_step
bit_steps-shifted zero h = omega arith
bit_steps-shifted (suc n) h =
    ap (bit_steps n) (ap₂ (λ (x y : ℕ). bit_xor x (if_set y 0xEDB88320)) (shifted_half h n) (shifted_even h n) ∙ xor_zero_r (h * 2 ^ n)) ∙ bit_steps-shifted n h

-- a number is its high digits and its low ones, joined
pub halves : (n x : ℕ) → x ≡ bit_xor (x / 2 ^ n * 2 ^ n) (x % 2 ^ n)
halves n x = sym (split x n) ∙ sym (xor_shifted (x / 2 ^ n) n (x % 2 ^ n) (mod-lt x (pow_pos n)))

pub bit_steps-split : (n x : ℕ) → bit_steps n x ≡ bit_xor (bit_steps n (x % 2 ^ n)) (x / 2 ^ n)
bit_steps-split n x =
    ap (bit_steps n) (halves n x) ∙ bit_steps-xor n (x / 2 ^ n * 2 ^ n) (x % 2 ^ n)
    ∙ ap (λ (y : ℕ). bit_xor y (bit_steps n (x % 2 ^ n))) (bit_steps-shifted n (x / 2 ^ n))
    ∙ xor_comm (x / 2 ^ n) (bit_steps n (x % 2 ^ n))

-- the byte's part of the table, and the rest shifted
pub by-table : (c b : ℕ) → b < 256 → bit_xor (bit_steps 8 (bit_xor c b % 256)) (c / 256) ≡ byte_step c b
unfolding byte_step
by-table c b h =
    sym (bit_steps-split 8 (bit_xor c b)
    ∙ ap (bit_xor (bit_steps 8 (bit_xor c b % 256))) (xor_shr c b 8 ∙ ap (bit_xor (c / 256)) (div-eq_of_lt h) ∙ xor_zero_r (c / 256)))
