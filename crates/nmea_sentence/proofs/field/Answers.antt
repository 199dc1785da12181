use mathlib.Core.Path.{◌≡◌}
use native.Mathlib.Omega.{arith}
use lib.ListN.{length}
use Rattle.nmea_sentence.proofs.FieldLaws.{walk_start, walk-plain, walk-comma, found, last, missing}
use Rattle.nmea_sentence.proofs.field.Goals as goal
use Rattle.nmea_sentence.proofs.field.Goals.{then-b-eq44+else-left-eq0, else-b-eq44}

pub loop-k-init : goal.loop-k-init
loop-k-init c = walk_start c.args.s.now c.args.i

pub returns-then-left-eq0 : goal.returns-then-left-eq0
returns-then-left-eq0 c = found _ _ _ _ _ c.loop-k.invariant c.loop-k-test.true c.if-b-eq44.true c.if-left-eq0.true

pub loop-k-preserved : goal.loop-k-preserved
loop-k-preserved c = let w = c.loop-k.invariant in
    let h = c.loop-k-test.true in
    elim c.if-b-eq44.branch [
      | then-b-eq44+else-left-eq0 u ↦ walk-comma _ _ _ _ _ w h u.if-b-eq44.true u.if-left-eq0.false _ _ u.start-is u.left-is
      | else-b-eq44 u ↦ walk-plain _ _ _ _ _ w h u.if-b-eq44.false _ _ u.start-is u.left-is
    ]

pub returns-then-left-eq0-2 : goal.returns-then-left-eq0-2
returns-then-left-eq0-2 c = let w = c.loop-k.invariant in
    let e : length c.args.s.now ≡ c.loop-k.k = omega arith in
    rw e (last _ _ _ _ _ w c.loop-k-test.false c.if-left-eq0-2.true)

pub returns-else-left-eq0-2 : goal.returns-else-left-eq0-2
returns-else-left-eq0-2 c = missing _ _ _ _ _ c.loop-k.invariant c.loop-k-test.false c.if-left-eq0-2.false
