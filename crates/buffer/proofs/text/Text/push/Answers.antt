use mathlib.Core.Path.{refl, ap, ◌∙◌}
use mathlib.Core.List.{List, ◌++◌}
use Prim.Native.Nat.{ℕ, ◌+◌}
use lib.ListN.{take}
use Rattle.buffer.proofs.TextLaws.{pushed}
use Rattle.buffer.proofs.text.Text.push.Goals as goal

pub returns : goal.returns
returns g c =
    ap (take (c.self.inside.len + c.min-n.result)) c.copy.ensures
    ∙ pushed g.row.N _ _ _ c.args.bytes.now _ c.self.invariant c.self.told c.min-n.ensures refl
    ∙ ap (λ (t : List ℕ). take g.row.N (t ++ c.args.bytes.now)) c.self.view_is
