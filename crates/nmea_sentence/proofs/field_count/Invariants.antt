use Rattle.nmea_sentence.proofs.FieldLaws.{Parted}
use Rattle.nmea_sentence.proofs.field_count.Given as goal

abbrev pub invariant-loop-part : goal.invariant-loop-part
invariant-loop-part l = Parted l.s l.n l.part-iterator.rest.now l.part-iterator.size
