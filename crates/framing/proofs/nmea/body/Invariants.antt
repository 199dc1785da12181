use Rattle.std.proofs.Common.{◌-◌}
use Rattle.framing.specs.Private.{Reached}
use Rattle.framing.proofs.nmea.body.Given as goal

abbrev pub invariant-loop-k : goal.invariant-loop-k
invariant-loop-k l = Reached l.k l.s

abbrev pub decreases-loop-k : goal.decreases-loop-k
decreases-loop-k l = 78 - l.k
