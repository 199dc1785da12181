use native.Mathlib.Omega.{arith}
use mathlib.Core.Path.{refl, sym, ap, ◌∙◌}
use mathlib.Core.List.{List}
use Prim.Native.Nat.{ℕ}
use denote.Bor.{Bor}
use Rattle.framing.proofs.FormatLaws.{layout-some}
use Rattle.content.proofs.BodyLaws.{between-at, all-between, part-or-none}
use Rattle.content.proofs.between.Goals as goal

pub returns-in_default : goal.returns-in_default
returns-in_default c = all-between _ _ c.in_default.ensures

pub returns : goal.returns
returns c =
    ap (λ (b : Bor (List ℕ)). b.now) c.unwrap_or.ensures
    ∙ part-or-none (λ (b : Bor (List ℕ)). b.now) _ _ _ c.get.result _ _ refl (let z = c.saturating_sub.ensures in omega arith) c.get.ensures.lookup.0
    ∙ (let n = layout-some _ (sym c.in-Some.ensures) in rw c.saturating_sub.ensures (between-at _ _ n.head n.tail))
