use mathlib.Core.Path.{◌≡◌}
use mathlib.Core.List.{foldl}
use Prim.Native.Nat.{◌-◌, ◌%◌}
use lib.ListN.{length, drop}
use Rattle.checksum.specs.Crc.{byte_step}
use Rattle.checksum_slicing.proofs.crc32.Given as goal

-- The invariant: whole blocks are left, and from c they come to what the whole comes to.
abbrev pub invariant-loop-i : goal.invariant-loop-i
invariant-loop-i l = record {
  whole : (length l.s - l.i) % 8 ≡ 0;
  same : foldl byte_step l.c (drop l.i l.s) ≡ foldl byte_step 0xFFFFFFFF l.s;
}
