use native.Mathlib.Omega.{arith}
use mathlib.Core.Path.{◌∙◌}
use mir.Syntax.{w16, w32}
use Rattle.numbers.proofs.Signed.{minus-wrapping_neg}
use Rattle.numbers.proofs.Size.{test-yes, test-no, stays, called}
use Rattle.mgl_gyro.proofs.GyroLaws.{scale-fits, up, down}
use Rattle.mgl_gyro.proofs.hundredths.Goals as goal

pub overflow_cast-result : goal.overflow_cast-result
overflow_cast-result c = record { sfits = omega (arith, c.scaled-n.ensures, scale-fits c.unsigned_abs.result (omega arith)) }

pub returns-then-v-lt0 : goal.returns-then-v-lt0
returns-then-v-lt0 c = let v = c.ranges.v in
    called w32 c.cast_signed.type_inv (c.cast_signed.ensures ∙ minus-wrapping_neg w32 c.wrapping_neg.type_inv c.scaled-n.type_inv c.wrapping_neg.ensures)
    ∙ rw (c.scaled-n.ensures, c.unsigned_abs.ensures.value, stays w16 v) (down _ v (test-yes w16 _ v c.if-v-lt0.true))

pub returns-else-v-lt0 : goal.returns-else-v-lt0
returns-else-v-lt0 c = let v = c.ranges.v in
    rw (c.scaled-n.ensures, c.unsigned_abs.ensures.value, stays w16 v) (up _ v (test-no w16 _ v c.if-v-lt0.false))
