use Rattle.std.proofs.Common.{◌≡◌, refl, ◌∙◌, add-one, arith}
use Rattle.framing.proofs.SumLaws.{sum_to, columns-are}
use Rattle.framing.proofs.xor_padded.xor_first.Goals as goal

pub loop-i-init : goal.loop-i-init
unfolding sum_to
loop-i-init c = (omega arith, refl)

pub loop-i-preserved : goal.loop-i-preserved
unfolding sum_to
loop-i-preserved c = (omega arith, rw (add-one, c.loop-i.invariant.1, c.kept.ensures, c.kept-in-loop-i.ensures, c.kept-in-loop-i-2.ensures, c.kept-in-loop-i-3.ensures, c.kept-in-loop-i-4.ensures))

pub returns : goal.returns
unfolding sum_to
returns c = let a = c.args in
    let e : c.loop-i.i ≡ 16 = omega arith in
    c.loop-i.invariant.1 ∙ rw e (columns-are a.s.now a.n (omega arith) (omega arith))
