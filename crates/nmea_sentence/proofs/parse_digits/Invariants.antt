use Rattle.nmea_sentence.proofs.DigitLaws.{Read}
use Rattle.nmea_sentence.proofs.parse_digits.Given as goal

abbrev pub invariant-loop-b : goal.invariant-loop-b
invariant-loop-b l = Read l.s l.n l.b-index
