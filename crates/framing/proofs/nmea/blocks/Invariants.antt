use Rattle.std.proofs.Common.{◌+◌, ◌*◌, min, length}
use Rattle.framing.specs.Private.{Reached}
use Rattle.framing.proofs.nmea.blocks.Given as goal

abbrev pub invariant-loop-i : goal.invariant-loop-i
invariant-loop-i l = Reached (min (1 + 32 * l.i) (length l.s)) l.s
