use native.Mathlib.Omega.{arith}
use mathlib.Core.Path.{sym, ap, ◌∙◌}
use mathlib.Core.List.{List}
use Prim.Native.Nat.{ℕ, ◌+◌, ◌-◌}
use native.Mathlib.Numerals.{add-one}
use lib.ListN.{length, set, replicate, length-set, length-replicate, get_or-replicate}
use lib.Seq.{paste, paste-suc}
use Rattle.reader.proofs.held.clear.Goals as goal

pub loop-j-preserved : goal.loop-j-preserved
loop-j-preserved c =
    let a = c.args in
    let l = c.loop-j in
    let h = a.held.now in
    let n = length h - a.from in
    let zs : List ℕ = replicate n 0 in (
      omega (arith, c.loop-j-test.true),
      l.invariant.1,
      simp length-set l.invariant.2,
      ap (λ (r : List ℕ). set r (a.from + l.j) 0) l.invariant.3
          ∙ ap (λ (z : ℕ). set (paste h a.from zs l.j) (a.from + l.j) z) (sym (get_or-replicate n l.j 0 0 c.loop-j-test.true))
          ∙ paste-suc h a.from zs l.j 0 (omega (arith, l.invariant.1, c.loop-j-test.true)) (omega (arith, c.loop-j-test.true, length-replicate {A = ℕ} n 0))
          ∙ ap (paste h a.from zs) (sym (add-one l.j)),
    )
