-- CRC-32 of ITU-T V.42, bit by bit (docs/FORMATS.md, "Checksums").
use Rattle.std.specs.Prelude.{ℕ, zero, suc, ◌/◌, ◌%◌, List, bit_xor}
use mathlib.Core.List.{foldl}

-- x where the bit is set, else 0
abbrev pub if_set : ℕ → ℕ → ℕ
if_set zero x = 0
if_set (suc b) x = x

-- one bit: shift right, and where a 1 fell off, join the reflected polynomial by exclusive or
unfoldable pub bit_step : ℕ → ℕ
bit_step c = bit_xor (c / 2) (if_set (c % 2) 0xEDB88320)

unfoldable pub bit_steps : ℕ → ℕ → ℕ
bit_steps zero c = c
bit_steps (suc n) c = bit_steps n (bit_step c)

-- one byte: joined by exclusive or, then its eight bits
unfoldable pub byte_step : ℕ → ℕ → ℕ
byte_step c b = bit_steps 8 (bit_xor c b)

-- from all ones over the bytes, the result inverted
unfoldable pub crc_of : List ℕ → ℕ
crc_of s = bit_xor (foldl byte_step 0xFFFFFFFF s) 0xFFFFFFFF
