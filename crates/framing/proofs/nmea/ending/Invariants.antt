use Rattle.std.proofs.Common.{◌≡◌, ◌+◌, ◌≤◌, drop}
use Rattle.framing.specs.declared.Format.TheVariants.{Nmea}
use Rattle.framing.specs.Shape.{scan_from}
use Rattle.framing.proofs.nmea.ending.Given as goal

-- What is left behind m bytes of the end comes to the same as all of it.
abbrev pub invariant-loop-m : goal.invariant-loop-m
invariant-loop-m l = (l.m ≤ 3) × (scan_from Nmea l.from 1 (drop l.from l.s) ≡ scan_from Nmea (l.from + l.m) (l.m + 1) (drop (l.from + l.m) l.s))
