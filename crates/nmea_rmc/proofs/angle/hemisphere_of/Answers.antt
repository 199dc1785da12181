use borrow.Author.Tests.{eq-eqb, ne_eqb}
use Rattle.nmea_rmc.specs.Angle.{hemisphere_of}
use Rattle.nmea_rmc.proofs.angle.hemisphere_of.Goals as goal

pub returns-then-s-ne1 : goal.returns-then-s-ne1
unfolding hemisphere_of
returns-then-s-ne1 c = rw (ne_eqb _ _ c.if-s-ne1.true)

pub returns-then-s-plus : goal.returns-then-s-plus
unfolding hemisphere_of
returns-then-s-plus c = rw (eq-eqb _ _ c.if-s-ne1.false, eq-eqb _ _ c.if-s-plus.true)

pub returns-then-s-minus : goal.returns-then-s-minus
unfolding hemisphere_of
returns-then-s-minus c = rw (eq-eqb _ _ c.if-s-ne1.false, ne_eqb _ _ c.if-s-plus.false, eq-eqb _ _ c.if-s-minus.true)

pub returns : goal.returns
unfolding hemisphere_of
returns c = rw (eq-eqb _ _ c.if-s-ne1.false, ne_eqb _ _ c.if-s-plus.false, ne_eqb _ _ c.if-s-minus.false)
