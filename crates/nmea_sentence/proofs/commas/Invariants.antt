use Prim.Native.Nat.{◌+◌}
use Rattle.nmea_sentence.proofs.FieldLaws.{Count}
use Rattle.nmea_sentence.proofs.commas.Given as goal

abbrev pub invariant-loop-b : goal.invariant-loop-b
invariant-loop-b l = Count l.s (l.n + 1) l.b-index
