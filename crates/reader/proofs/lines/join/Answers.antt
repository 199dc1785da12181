use mathlib.Core.Path.{refl, ◌∙◌, ap}
use Prim.Native.Nat.{◌+◌}
use lib.ListN.{length, take}
use Rattle.reader.proofs.HeldLaws.{joins}
use Rattle.reader.proofs.lines.join.Goals as goal

pub returns : goal.returns
returns c = let a = c.args in (
  refl,
  ap (take (length a.start.now + length a.bytes.now)) (c.copy-2.ensures ∙ rw c.copy.ensures)
      ∙ joins a.work.now a.start.now a.bytes.now (length a.start.now) refl c.requires,
)
