use Rattle.nmea_sentence.proofs.FromLaws.{Passed}
use Rattle.nmea_sentence.proofs.from_field.Given as goal

abbrev pub invariant-loop-k : goal.invariant-loop-k
invariant-loop-k l = Passed l.s l.i l.left l.k
