use borrow.Author.Rules.{rules}
use borrow.Author.Tests.{leb-true, leb-false}
use mathlib.Core.Path.{◌≡◌, sym, ap, ◌∙◌}
use mathlib.Core.List.{List}
use native.Mathlib.Omega.{arith}
use native.Mathlib.Numerals.{add-one}
use Prim.Native.Nat.{ℕ, ◌+◌}
use lib.ListN.{length, get_or, set, length-set}
use lib.Seq.{paste, paste-suc}
use Rattle.buffer.proofs.BufferLaws.{copied-fits, copied_none}
use Rattle.buffer.proofs.copy.Goals as goal

pub loop-j-preserved : goal.loop-j-preserved
loop-j-preserved c =
    let a = c.args in
    let l = c.loop-j in
    let fits = leb-true _ _ (sym c.fits.ensures ∙ c.if-fits.true) in (
      omega (arith, c.loop-j-test.true),
      simp length-set l.invariant.1,
      ap (λ (r : List ℕ). set r (a.at + l.j) (get_or a.bytes.now l.j 0)) l.invariant.2
          ∙ paste-suc a.out.now a.at a.bytes.now l.j 0 (omega (arith, fits, c.loop-j-test.true)) c.loop-j-test.true
          ∙ ap (paste a.out.now a.at a.bytes.now) (sym (add-one l.j)),
    )

pub returns-after-loop-j : goal.returns-after-loop-j
returns-after-loop-j c =
    let a = c.args in
    let l = c.loop-j in
    let all : l.j ≡ length a.bytes.now = omega (arith, l.invariant.0, c.loop-j-test.false) in
    l.invariant.2
    ∙ ap (paste a.out.now a.at a.bytes.now) all
    ∙ copied-fits a.bytes.now _ _ (leb-true _ _ (sym c.fits.ensures ∙ c.if-fits.true))

pub returns-else-fits : goal.returns-else-fits
returns-else-fits c = copied_none _ _ _ (leb-false _ _ (sym c.fits.ensures ∙ c.if-fits.false))
