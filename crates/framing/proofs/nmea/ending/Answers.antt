use Rattle.std.proofs.Common.{sym, ◌∙◌, arith}
use Rattle.framing.specs.declared.Format.TheVariants.{Nmea}
use Rattle.framing.proofs.ShapeLaws.{scan-end}
use Rattle.framing.proofs.NmeaLaws.{ended-badly, ended-well, ends-on}
use Rattle.framing.proofs.nmea.ending.Goals as goal

pub returns-then-not-may_end : goal.returns-then-not-may_end
returns-then-not-may_end c = let l = c.loop-m in
    ended-badly _ (omega arith) l.invariant.0 c.loop-m-test.true l.invariant.1 c.may_end.ensures c.if-not-may_end.true

pub returns-then-m-eq3 : goal.returns-then-m-eq3
returns-then-m-eq3 c = let l = c.loop-m in
    ended-well _ (omega arith) l.invariant.0 c.loop-m-test.true l.invariant.1 c.may_end.ensures c.if-not-may_end.false c.if-m-eq3.true

pub loop-m-preserved : goal.loop-m-preserved
loop-m-preserved c = let l = c.loop-m in
    (omega arith, ends-on _ (omega arith) l.invariant.0 c.loop-m-test.true l.invariant.1 c.may_end.ensures c.if-not-may_end.false c.if-m-eq3.false)

pub returns : goal.returns
returns c = let l = c.loop-m in sym (l.invariant.1 ∙ scan-end Nmea _ _ _ (omega arith))
