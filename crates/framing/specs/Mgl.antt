-- Document 01's MGL frames (docs/FORMATS.md, "MGL frames"): 05 02 L X, L + 20 bytes in all.
use Rattle.std.specs.Prelude.{ℕ, zero, suc, ◌+◌, ◌-◌, Bool, List, length, ◌==◌, Some}
use Rattle.numbers.specs.Low.{low}
use Rattle.checksum.specs.Crc.{crc_of}
use Rattle.framing.specs.declared.Reason.TheVariants.{StartByte, SecondByte, HeaderByte}
use Rattle.framing.specs.declared.Layout.{Layout}
use Rattle.framing.specs.Rules.{Next, more, Rules, rules, must, up_to, part}

-- L = 0 stands for 256
abbrev pub length_from_byte : ℕ → ℕ
length_from_byte zero = 256
length_from_byte (suc l) = suc l

-- Kept: L, then the number of all bytes.
unfoldable pub mgl_next : ℕ → ℕ → ℕ → Next
mgl_next zero m b = must (b == 0x05) (more 0) StartByte
mgl_next (suc zero) m b = must (b == 0x02) (more 0) SecondByte
mgl_next (suc (suc zero)) m b = more b
mgl_next (suc (suc (suc zero))) m b = must (m + b == 255) (more (length_from_byte m + 20)) HeaderByte
mgl_next (suc (suc (suc (suc k)))) m b = up_to m (suc (suc (suc (suc k))))

-- CRC-32 from the type to the last body byte, low byte first in the last four
abbrev pub mgl_good : List ℕ → Bool
mgl_good xs = crc_of (part 4 (length xs - 4) xs) == low 4 xs (length xs - 4)

-- The body has 8 bytes before it, the last four the type, rate, count and version, and the checksum after it.
abbrev pub mgl_layout : Layout
mgl_layout = record { first = 0x05; shortest = 21; longest = 276; head = 8; tail = 4 }

abbrev pub mgl_rules : Rules
mgl_rules = rules (Some mgl_layout) mgl_next mgl_good
