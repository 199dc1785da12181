use native.Mathlib.Omega.{arith}
use Rattle.nmea_sentence.proofs.FieldLaws.{count-plain, count-comma, count-done}
use Rattle.nmea_sentence.proofs.commas.Goals as goal
use Rattle.nmea_sentence.proofs.commas.Goals.{then-b-eq44, else-b-eq44}

pub loop-b-preserved : goal.loop-b-preserved
loop-b-preserved c = let w = c.loop-b.invariant in
    let h = c.loop-b-test.true in
    elim c.if-b-eq44.branch [
      | then-b-eq44 u ↦ count-comma _ _ _ w h u.if-b-eq44.true _ (omega arith)
      | else-b-eq44 u ↦ count-plain _ _ _ w h u.if-b-eq44.false _ (omega arith)
    ]

pub returns : goal.returns
returns c = count-done _ _ _ c.loop-b.invariant c.loop-b-test.false
