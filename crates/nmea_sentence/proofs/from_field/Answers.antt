use Prim.Native.Nat.{◌<◌}
use native.Mathlib.Omega.{arith}
use Rattle.nmea_sentence.proofs.FromLaws.{pass-comma, pass-plain, pass-done, pass-short}
use Rattle.nmea_sentence.proofs.from_field.Goals as goal
use Rattle.nmea_sentence.proofs.from_field.Goals.{then-b-eq44, else-b-eq44}

pub returns-then-left-eq0 : goal.returns-then-left-eq0
returns-then-left-eq0 c = pass-done _ _ _ _ c.loop-k.invariant c.if-left-eq0.true

pub loop-k-preserved : goal.loop-k-preserved
loop-k-preserved c = let w = c.loop-k.invariant in
    let z : 0 < c.loop-k.left = omega arith in
    let h = c.loop-k-test.true in
    elim c.if-b-eq44.branch [
      | then-b-eq44 u ↦ pass-comma _ _ _ _ w z h u.if-b-eq44.true _ u.left-is
      | else-b-eq44 u ↦ pass-plain _ _ _ _ w z h u.if-b-eq44.false _ u.left-is
    ]

pub returns : goal.returns
returns c = pass-short _ _ _ _ c.loop-k.invariant c.loop-k-test.false
