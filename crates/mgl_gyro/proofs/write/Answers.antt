use borrow.Author.Tests.{le-leb, lt-leb}
use native.Mathlib.Omega.{arith}
use mathlib.Core.Path.{◌∙◌}
use mir.Syntax.{w16}
use Rattle.numbers.proofs.Signed.{small, minus-wrapping_neg}
use Rattle.numbers.proofs.Size.{called, minus_is}
use Rattle.answer.proofs.AnswerLaws.{done}
use Rattle.mgl_gyro.proofs.GyroLaws.{written-up, written-down, not-written}
use Rattle.mgl_gyro.proofs.write.Goals as goal

pub returns-in_default : goal.returns-in_default
returns-in_default c = not-written c.ranges.rate c.unsigned_abs.ensures.value c.in_default.ensures

pub returns-then-n-le32768 : goal.returns-then-n-le32768
returns-then-n-le32768 c = let n = c.in-Some.n in
    rw (written-down c.ranges.rate c.unsigned_abs.ensures.value c.in-Some.ensures c.if-rate-lt0.true, le-leb n 32768 (omega arith))
    (done (called w16 c.cast_signed.type_inv (c.cast_signed.ensures ∙ minus-wrapping_neg w16 c.wrapping_neg.type_inv (omega arith) c.wrapping_neg.ensures) ∙ minus_is w16 n (omega arith)))

pub returns-then-rate-lt0 : goal.returns-then-rate-lt0
returns-then-rate-lt0 c = rw (written-down c.ranges.rate c.unsigned_abs.ensures.value c.in-Some.ensures c.if-rate-lt0.true, lt-leb c.in-Some.n 32768 (omega arith))

pub returns-then-n-le32767 : goal.returns-then-n-le32767
returns-then-n-le32767 c = rw (written-up c.ranges.rate c.unsigned_abs.ensures.value c.in-Some.ensures c.if-rate-lt0.false, le-leb c.in-Some.n 32767 (omega arith)) (done (small w16 (omega arith)))

pub returns : goal.returns
returns c = rw (written-up c.ranges.rate c.unsigned_abs.ensures.value c.in-Some.ensures c.if-rate-lt0.false, lt-leb c.in-Some.n 32767 (omega arith))
