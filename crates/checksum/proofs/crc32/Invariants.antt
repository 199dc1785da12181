use Rattle.std.proofs.Common.{◌≡◌, drop}
use mathlib.Core.List.{foldl}
use lib.Bits.{bit_xor}
use Rattle.checksum.specs.Crc.{byte_step, crc_of}
use Rattle.checksum.proofs.crc32.Given as goal

-- The invariant: the fold of what is left, from c, is the fold of the whole.
abbrev pub invariant-loop-b : goal.invariant-loop-b
invariant-loop-b l = bit_xor (foldl byte_step l.c (drop l.b-index l.s)) 0xFFFFFFFF ≡ crc_of l.s
