-- How large the checksums of bytes are.
-- Assumes nothing.
use Prim.Native.Nat.{ℕ, zero, suc, ◌/◌, ◌%◌, ◌^◌, ◌<◌}
use mathlib.Core.List.{List, [], ◌∷◌, foldl}
use native.Mathlib.Omega.{arith}
use lib.Bits.{bit_xor, xor_lt}
use lib.Dec.{lit<}
use Rattle.checksum.specs.Crc.{if_set, bit_step, bit_steps, byte_step, crc_of}
use Rattle.checksum.specs.Xor.{xor_of}
use Rattle.framing.specs.Meaning.{IsByte, Bytes}

-- a fold that keeps below a bound
fold-below : (N : ℕ) (f : ℕ → ℕ → ℕ) → ((x b : ℕ) → x < N → IsByte b → f x b < N) → (x : ℕ) (s : List ℕ) → x < N → Bytes s → foldl f x s < N
fold-below N f step x [] h b = h
fold-below N f step x (y ∷ s) h b = fold-below N f step (f x y) s (step x y h b.0) b.1

pub xor_below : (s : List ℕ) → Bytes s → xor_of s < 256
unfolding xor_of
xor_below s b = fold-below 256 bit_xor (λ x y h k. xor_lt 8 x y h (omega arith)) 0 s (lit< tt) b

bit_below : (c : ℕ) → c < 2 ^ 32 → bit_step c < 2 ^ 32
unfolding bit_step
bit_below c h = xor_lt 32 (c / 2) (if_set (c % 2) 0xEDB88320) (omega arith) (set (c % 2))
  where
    set : (b : ℕ) → if_set b 0xEDB88320 < 2 ^ 32
    set zero = lit< tt
    set (suc b) = lit< tt

bits_below : (n c : ℕ) → c < 2 ^ 32 → bit_steps n c < 2 ^ 32
unfolding bit_steps
bits_below zero c h = h
bits_below (suc n) c h = bits_below n (bit_step c) (bit_below c h)

byte-below : (c b : ℕ) → c < 2 ^ 32 → IsByte b → byte_step c b < 2 ^ 32
unfolding byte_step
byte-below c b h k = bits_below 8 (bit_xor c b) (xor_lt 32 c b h (omega arith))

pub crc-below : (s : List ℕ) → Bytes s → crc_of s < 2 ^ 32
unfolding crc_of
crc-below s b = xor_lt 32 (foldl byte_step 0xFFFFFFFF s) 0xFFFFFFFF (fold-below (2 ^ 32) byte_step byte-below 0xFFFFFFFF s (lit< tt) b) (lit< tt)
