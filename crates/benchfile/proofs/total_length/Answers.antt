use mathlib.Core.Path.{refl}
use Rattle.benchfile.specs.Toc.{total_length}
use Rattle.benchfile.proofs.TocLaws.{total-length-next}
use native.Mathlib.Omega.{arith}
use borrow.Author.Rules.{rules}
use Rattle.benchfile.proofs.total_length.Goals as goal

pub loop-k-init : goal.loop-k-init
unfolding total_length
loop-k-init c = (refl, search rules)

pub loop-k-preserved : goal.loop-k-preserved
loop-k-preserved c = (rw (c.from-sum.ensures, c.at.ensures, c.from.ensures, c.loop-k.invariant.0, total-length-next c.args.s.now c.loop-k.k), omega arith)
