use native.Mathlib.Omega.{arith}
use mathlib.Core.Path.{◌≡◌, sym, ap}
use Prim.Native.Nat.{ℕ}
use lib.ListN.{take}
use lib.Seq.{length-take-le}
use Rattle.framing.specs.Shape.{scan}
use Rattle.framing.proofs.ShapeLaws.{scan-end}
use Rattle.reader.specs.Refusal.{is_start}
use Rattle.reader.proofs.refusal.start_of.Goals as goal

pub returns-then-pending-eq0 : goal.returns-then-pending-eq0
unfolding scan
returns-then-pending-eq0 c = let a = c.args in (
  λ h. sym (ap is_start (scan-end a.format 0 0 (take a.pending a.held.now) (omega (arith, length-take-le a.pending a.held.now h, c.if-pending-eq0.true)))),
  λ e. let z : ◌≡◌ {A = ℕ} 0 1 = cc in absurd (omega arith),
)
