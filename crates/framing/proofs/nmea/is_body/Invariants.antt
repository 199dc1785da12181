use Rattle.std.proofs.Common.{◌+◌, ◌*◌}
use Rattle.framing.specs.Private.{Permitted}
use Rattle.framing.proofs.nmea.is_body.Given as goal

abbrev pub invariant-loop-i : goal.invariant-loop-i
invariant-loop-i l = Permitted 1 (1 + 32 * l.i) l.s
