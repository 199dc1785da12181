use native.Mathlib.Omega.{arith}
use Prim.Native.Nat.{◌+◌, ◌-◌, ◌*◌}
use mathlib.Core.Path.{◌∙◌}
use mir.Syntax.{w32}
use Rattle.numbers.proofs.Size.{stays}
use Rattle.mgl.proofs.FuelLaws.{tank-part}
use Rattle.mgl.proofs.fuel.tank_at.Goals as goal

pub returns : goal.returns
returns c = let i = c.args.i in
    tank-part _ i {at = 12 + 8 * i} {n = 12 + 8 * i + 8 - (12 + 8 * i)} (omega arith) (omega arith)
    (stays w32 (record { sfits = c.at.type_inv }) ∙ c.at.ensures)
    c.byte_at.ensures
    c.byte_at-2.ensures
    c.at-2.ensures
