use borrow.Author.Rules.{rules}
use lib.ListN.{length-take, length-drop}
use native.Mathlib.Omega.{arith}
use Rattle.nmea_sentence.proofs.DigitLaws.{few-digits}
use Rattle.nmea_rmc.proofs.AngleLaws.{short, many, no-point, no-degrees, no-minutes, no-parts, high-minutes, whole}
use Rattle.nmea_rmc.proofs.angle.angle_of.Goals as goal

pub returns-then-s-lt9 : goal.returns-then-s-lt9
returns-then-s-lt9 c = short _ _ c.if-s-lt9.true

pub returns-then-most-k : goal.returns-then-most-k
returns-then-most-k c = many _ _ c.if-s-lt9.false c.if-most-k.true

pub returns-then-s-k-ne46 : goal.returns-then-s-k-ne46
returns-then-s-k-ne46 c = no-point _ _ c.if-s-lt9.false c.if-most-k.false c.if-s-k-ne46.true

pub returns-in_err-degrees : goal.returns-in_err-degrees
returns-in_err-degrees c = rw c.from_residual.ensures (no-degrees _ _ (search rules) c.in_err-degrees.ensures)

pub returns-in_err-minutes : goal.returns-in_err-minutes
returns-in_err-minutes c = rw c.from_residual-in_err-minutes.ensures (no-minutes _ _ (search rules) c.in_err-minutes.ensures)

pub returns-in_err-parts : goal.returns-in_err-parts
returns-in_err-parts c = rw c.from_residual-in_err-parts.ensures (no-parts _ _ (search rules) c.in_err-parts.ensures)

pub returns-then-minutes-ge60 : goal.returns-then-minutes-ge60
returns-then-minutes-ge60 c = high-minutes _ _ (search rules) (c.in_ok-minutes.ensures) c.if-minutes-ge60.true

pub overflow_mul-result : goal.overflow_mul-result
overflow_mul-result c = let p = c.in_ok-degrees.ensures in
    omega (arith, few-digits _ _ 3 p (simp length-take (omega arith)))

pub overflow_add-result : goal.overflow_add-result
overflow_add-result c = let p = c.in_ok-degrees.ensures in
    omega (arith, few-digits _ _ 3 p (simp length-take (omega arith)))

pub overflow_add-result-2 : goal.overflow_add-result-2
overflow_add-result-2 c = let p = c.in_ok-degrees.ensures in
    let r = c.in_ok-parts.ensures in
    omega (arith, few-digits _ _ 3 p (simp length-take (omega arith)), few-digits _ _ 5 r (simp (length-take, length-drop) (omega arith)))

pub returns : goal.returns
returns c = let p = c.in_ok-degrees.ensures in
    let q = c.in_ok-minutes.ensures in
    let r = c.in_ok-parts.ensures in
    whole _ _ (search rules) q p r c.if-minutes-ge60.false
