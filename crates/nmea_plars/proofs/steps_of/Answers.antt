use mathlib.Core.Path.{sym}
use native.Mathlib.Omega.{arith}
use Rattle.nmea_plars.proofs.PlarsLaws.{steps-most}
use Rattle.nmea_plars.proofs.steps_of.Goals as goal

pub overflow_mul-result : goal.overflow_mul-result
overflow_mul-result c = let w = sym c.in_ok-w.ensures in
    let f = sym c.in_ok-f.ensures in
    omega (arith, steps-most _ _ _ _ _ w f c.requires)

pub overflow_add-result : goal.overflow_add-result
overflow_add-result c = let w = sym c.in_ok-w.ensures in
    let f = sym c.in_ok-f.ensures in
    omega (arith, steps-most _ _ _ _ _ w f c.requires)
