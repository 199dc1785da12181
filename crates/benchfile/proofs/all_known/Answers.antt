use mathlib.Core.Path.{refl, sym, ◌∙◌}
use Rattle.benchfile.specs.Toc.{all_known}
use Rattle.benchfile.proofs.TocLaws.{known-next, not_known}
use Rattle.benchfile.proofs.all_known.Goals as goal

pub loop-i-init : goal.loop-i-init
unfolding all_known
loop-i-init c = refl

pub returns-then-not-is_known_at : goal.returns-then-not-is_known_at
returns-then-not-is_known_at c =
    sym (not_known c.args.s.now c.args.n c.loop-i.i c.loop-i-test.true (sym c.is_known_at.ensures ∙ c.if-not-is_known_at.true))

pub loop-i-preserved : goal.loop-i-preserved
loop-i-preserved c = known-next c.args.s.now c.loop-i.i c.loop-i.invariant (sym c.is_known_at.ensures ∙ c.if-not-is_known_at.false)
