use mathlib.Core.Path.{ap}
use lib.Ieee.{of_int, of_bits}
use lib.IntN.{ℤ}
use mir.Syntax.{w16}
use Rattle.numbers.proofs.Size.{called}
use Rattle.answer.specs.Answer.{given}
use Rattle.content.proofs.JudgeLaws.{judged_done}
use Rattle.onflight_sensors.specs.Ratio.{ratio, load_of}
use Rattle.onflight_sensors.proofs.ratio.read_load_factor.Goals as goal

pub returns : goal.returns
unfolding of_int of_bits ratio load_of
returns c = judged_done _ _ _ _ c.in_ok-judge.ensures (ap (λ (z : ℤ). given (ratio z 1000)) (called w16 c.at.type_inv c.at.ensures))
