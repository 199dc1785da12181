use Rattle.nmea_sentence.proofs.FieldLaws.{Walk}
use Rattle.nmea_sentence.proofs.field.Given as goal

abbrev pub invariant-loop-k : goal.invariant-loop-k
invariant-loop-k l = Walk l.s l.i l.start l.left l.k
