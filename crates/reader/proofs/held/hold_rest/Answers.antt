use Rattle.std.proofs.Common.{◌≡◌, ◌+◌, ◌-◌, ℕ, List, length, take, drop, sym, ap, ◌∙◌, arith, add-one, ◌<◌}
use native.Mathlib.Nat.{zero-add}
use lib.ListN.{get_or, set, length-set, length-drop}
use lib.Seq.{paste, paste-suc}
use Rattle.reader.proofs.HeldLaws.{read-ahead, shifted, holds-rest}
use Rattle.reader.proofs.held.hold_rest.Goals as goal
use Rattle.reader.proofs.held.hold_rest.Goals.{then-used-gt0+else-loop-j-test, else-used-gt0}

pub loop-j-preserved : goal.loop-j-preserved
loop-j-preserved c =
    let a = c.args in
    let l = c.loop-j in
    let h = a.held.now in
    let s = drop a.used h in
    let m : a.used + l.j < length h = omega (arith, c.requires, c.loop-j-test.true) in (
      omega (arith, c.loop-j-test.true),
      simp length-set l.invariant.1,
      ap (λ (r : List ℕ). set r l.j (get_or r (a.used + l.j) 0)) l.invariant.2
          ∙ ap (λ (z : ℕ). set (paste h 0 s l.j) l.j z) (read-ahead h a.used l.j m)
          ∙ ap (λ (k : ℕ). set (paste h 0 s l.j) k (get_or s l.j 0)) (sym (zero-add l.j))
          ∙ paste-suc h 0 s l.j 0 (omega arith) (omega (arith, length-drop a.used h))
          ∙ ap (paste h 0 s) (sym (add-one l.j)),
    )

pub returns : goal.returns
returns c =
    let a = c.args in
    let h = a.held.now in
    let n = a.total - a.used in
    let q : (length c.if-used-gt0.held ≡ length h) × (take n c.if-used-gt0.held ≡ take n (drop a.used h)) =
    elim c.if-used-gt0.branch [
      | then-used-gt0+else-loop-j-test w ↦
          let l = w.loop-j in
          let all : l.j ≡ n = omega (arith, l.invariant.0, w.loop-j-test) in (
            ap length w.held-is ∙ l.invariant.1,
            ap (take n) (w.held-is ∙ l.invariant.2 ∙ ap (paste h 0 (drop a.used h)) all) ∙ shifted h a.used n (omega (arith, c.requires)),
          )
      | else-used-gt0 w ↦ (ap length w.held-is, let z : a.used ≡ 0 = omega (arith, w.if-used-gt0) in rw (w.held-is, z))
    ] in
    c.clear.ensures
    ∙ holds-rest h c.if-used-gt0.held a.used a.total c.requires.0 c.requires.1 c.requires.2 q.0 q.1
