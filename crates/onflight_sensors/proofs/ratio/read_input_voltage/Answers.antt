use Prim.Native.Nat.{ℕ}
use mathlib.Core.Path.{ap}
use lib.Ieee.{of_int, of_bits}
use lib.IntN.{pos}
use Rattle.answer.specs.Answer.{given}
use Rattle.content.proofs.JudgeLaws.{judged_done}
use Rattle.onflight_sensors.specs.Ratio.{ratio, voltage_of}
use Rattle.onflight_sensors.proofs.ratio.read_input_voltage.Goals as goal

pub returns : goal.returns
unfolding of_int of_bits ratio voltage_of
returns c = judged_done _ _ _ _ c.in_ok-judge.ensures (ap (λ (n : ℕ). given (ratio (pos n) 25)) c.byte_at.ensures)
