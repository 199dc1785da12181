use Rattle.nmea_sentence.proofs.FieldLaws.{parted-start, parted-next, parted-done}
use Rattle.nmea_sentence.proofs.field_count.Goals as goal

pub loop-part-init : goal.loop-part-init
loop-part-init c = rw c.into_iter-part-iterator.ensures.into_iter_gives (parted-start _ c.chunks-part-items.ensures.rest c.chunks-part-items.ensures.size)

pub loop-part-preserved : goal.loop-part-preserved
loop-part-preserved c = let e = c.in-Some.ensures.steps in
    parted-next _ _ _ _ c.loop-part.invariant e.1.0 c.commas.ensures e.0

pub returns : goal.returns
returns c = parted-done _ _ c.loop-part.invariant c.in-None.ensures.steps.1.0
