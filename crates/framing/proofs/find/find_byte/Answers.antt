use Rattle.std.proofs.Common.{sym, ◌∙◌, arith}
use Rattle.framing.proofs.FindStartLaws.{before_here, before_more, before-end, before-passed}
use Rattle.framing.proofs.find.find_byte.Goals as goal

pub loop-k-init : goal.loop-k-init
loop-k-init c = let e = c.find_in_blocks-passed.ensures in (e.0, before-passed _ _ _ e.0 e.1)

pub returns-then-s-k : goal.returns-then-s-k
returns-then-s-k c = let l = c.loop-k in
    sym (l.invariant.1 ∙ before_here _ _ l.k c.loop-k-test.true c.if-s-k.true)

pub loop-k-preserved : goal.loop-k-preserved
loop-k-preserved c = let l = c.loop-k in
    (omega arith, l.invariant.1 ∙ before_more _ _ l.k c.loop-k-test.true c.if-s-k.false)

pub returns : goal.returns
returns c = let l = c.loop-k in sym (l.invariant.1 ∙ before-end _ _ l.k (omega arith) ∙ omega arith)
