-- What private functions ask and promise. Nothing public rests on these definitions.
use Rattle.std.specs.Prelude.{◌≡◌, ℕ, ◌+◌, ◌-◌, ◌*◌, ◌%◌, ◌≤◌, length, get_or, drop}
use mathlib.Core.List.{List, [], ◌∷◌, foldl}
use Rattle.std.specs.Int.Bits.{bit_xor}
use Rattle.checksum.specs.Crc.{bit_steps, byte_step}
use Rattle.checksum.specs.Private.{table_from}
use Rattle.checksum_slicing.specs.declared.Block.{Block}

-- 8, 16 .. 64 bit steps on every byte
unfoldable pub step_tables : List (List ℕ)
step_tables =
    table_from 8 0 256 ∷ table_from 16 0 256 ∷ table_from 24 0 256 ∷ table_from 32 0 256 ∷ table_from 40 0 256 ∷ table_from 48 0 256 ∷ table_from 56 0 256
    ∷ table_from 64 0 256 ∷ []

-- the four bytes of s from i on as a number, low byte first
abbrev pub word_at : List ℕ → ℕ → ℕ
word_at s i = get_or s i 0 + 256 * (get_or s (i + 1) 0 + 256 * (get_or s (i + 2) 0 + 256 * get_or s (i + 3) 0))

-- the state after eight bytes: far is the first four, joined with the state before them, and near the others
abbrev pub after_block : ℕ → ℕ → ℕ
after_block far near = bit_xor (bit_steps 32 near) (bit_steps 64 far)

-- the states from which 0 to 7 zeros lead to all ones
abbrev pub openings : List ℕ
openings = 0xFFFFFFFF ∷ 0xF0958FD9 ∷ 0x9A1C9D90 ∷ 0xA32E2681 ∷ 0x9226F562 ∷ 0xF47BF9CC ∷ 0xAF4C9D16 ∷ 0x46865AA9 ∷ []

-- b is the first block of s: behind it whole blocks are left, and from it they come to what s comes to from all ones
pub record First (s : List ℕ) (b : Block) : Type 0 where
  pub within : b.next ≤ length s
  pub whole : (length s - b.next) % 8 ≡ 0
  pub same : foldl byte_step (after_block b.far b.near) (drop b.next s) ≡ foldl byte_step 0xFFFFFFFF s
