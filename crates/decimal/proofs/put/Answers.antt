use native.Mathlib.Omega.{arith}
use borrow.Author.Tests.{leb-false}
use mathlib.Core.Path.{◌≡◌, sym, ◌∙◌}
use lib.ListN.{length-set}
use Rattle.buffer.proofs.BufferLaws.{copied_none, none-copied}
use Rattle.decimal.specs.Decimal.{last_digits}
use Rattle.decimal.proofs.DecimalLaws.{length_last, last-laid}
use Rattle.decimal.proofs.put.Goals as goal

pub returns-then-not-fits : goal.returns-then-not-fits
unfolding last_digits
returns-then-not-fits c = let a = c.args in
    let over = leb-false _ _ (sym c.fits.ensures ∙ c.if-not-fits.true) in
    copied_none (last_digits a.k a.n) a.out.now a.at (rw (length_last a.k a.n) over)

pub loop-j-preserved : goal.loop-j-preserved
unfolding last_digits
loop-j-preserved c = let a = c.args in
    let l = c.loop-j in (
      simp length-set (omega arith),
      simp length-set l.invariant.1,
      last-laid l.j l.rest l.out a.at c.loop-j-test.true l.invariant.0 ∙ l.invariant.2,
    )

pub returns : goal.returns
unfolding last_digits
returns c = let a = c.args in
    let l = c.loop-j in
    let e : l.j ≡ 0 = omega arith in
    sym (none-copied l.out a.at) ∙ rw e at l.invariant.2
