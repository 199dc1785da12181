use native.Mathlib.Omega.{arith}
use Rattle.mgl.proofs.FuelLaws.{tank_refused, tank_past, tank_there, tank_inside}
use Rattle.mgl.proofs.fuel.read_tank.Goals as goal

pub returns-in_err-k : goal.returns-in_err-k
returns-in_err-k c = tank_refused _ _ _ _ c.from_residual.ensures.1 c.in_err-k.ensures

pub returns-then-k-i : goal.returns-then-k-i
returns-then-k-i c = tank_past _ _ _ c.in_ok-k.ensures (omega arith)

pub tank_at-requires : goal.tank_at-requires
tank_at-requires c = tank_inside _ _ _ c.in_ok-k.ensures (omega arith)

pub returns : goal.returns
returns c = tank_there _ _ _ c.in_ok-k.ensures (omega arith) c.tank_at.ensures
