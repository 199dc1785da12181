use native.Mathlib.Omega.{arith}
use Rattle.decimal.proofs.DecimalLaws.{count-one, count_most, count-least}
use Rattle.decimal.proofs.count.Goals as goal

pub returns-in-Some : goal.returns-in-Some
returns-in-Some c =
    let s = c.in-Some in
    omega (arith, count-least s.power c.args.n s.ensures.power_le, count_most s.power c.args.n (omega (arith, s.ensures.next_power_gt)))

pub returns-in-None : goal.returns-in-None
returns-in-None c = omega (arith, count-one c.args.n (omega (arith, c.in-None.ensures.none)))
