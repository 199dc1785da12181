use Rattle.report.specs.Step.{overrun}
use mathlib.Core.Path.{sym, ap, ◌∙◌}
use Rattle.report.proofs.StepLaws.{taken_empty, take-byte, take-over, take-piece}
use Prim.Native.Nat.{ℕ, min}
use Rattle.reader.specs.Refusal.{longest_piece}
use Rattle.report.proofs.Report.take.Goals as goal

pub loop-first-preserved-then-is_none : goal.loop-first-preserved-then-is_none
unfolding overrun
loop-first-preserved-then-is_none c =
    take-byte c.loop-first.self _ c.loop-first.rest.now _ c.in-Some.ensures.cases.0 (rw c.if-is_none.true at c.is_none.ensures) c.take_toc.ensures ∙ c.loop-first.invariant

pub returns-then-self-eq0 : goal.returns-then-self-eq0
unfolding overrun
returns-then-self-eq0 c =
    take-over c.loop-first.self _ c.loop-first.rest.now _ c.in-Some.ensures.cases.0 (rw c.if-is_none.false at c.is_none.ensures) c.if-self-eq0.true ∙ c.loop-first.invariant

pub loop-first-preserved : goal.loop-first-preserved
unfolding overrun
loop-first-preserved c =
    let l = c.loop-first in
    let s = c.split_at.ensures in
    let n = c.min-n.ensures ∙ ap (λ (n : ℕ). min n longest_piece) c.min.ensures in
    let p = rw s.front at c.take_piece.ensures in
    rw s.back (take-piece l.self _ l.rest.now _ c.in-Some.ensures.cases.0 _ (rw c.if-is_none.false at c.is_none.ensures) c.if-self-eq0.false n p c.close_finished.ensures ∙ l.invariant)

pub returns : goal.returns
unfolding overrun
returns c = sym (taken_empty c.loop-first.self c.loop-first.rest.now c.in_default.ensures.cases) ∙ c.loop-first.invariant
