use Rattle.nmea_sentence.proofs.CountLaws.{count-told}
use Rattle.nmea_sentence.proofs.count_in.Goals as goal

pub returns-in-Some : goal.returns-in-Some
returns-in-Some c = count-told _ _ c.in-Some.ensures
