use Rattle.report.specs.declared.Report.{Report}
use Rattle.report.specs.Step.{close_finished, open_entry, keep_sheet}
use mathlib.Core.Path.{sym, ap, ◌∙◌}
use Prim.Native.Nat.{◌+◌}
use native.Mathlib.Omega.{arith}
use Rattle.benchfile.specs.Toc.{entries}
use Rattle.report.proofs.StepLaws.{finished-kept, finished-end, finished-next}
use Rattle.report.proofs.Report.close_finished.Goals as goal

pub returns-then-self-ne0 : goal.returns-then-self-ne0
unfolding open_entry keep_sheet
returns-then-self-ne0 c = sym (finished-kept _ c.if-self-ne0.true) ∙ c.loop-i.invariant.0

pub loop-i-preserved : goal.loop-i-preserved
unfolding open_entry keep_sheet
loop-i-preserved c =
    let l = c.loop-i in
    let o = c.open_entry.ensures ∙ ap (λ (r : Report). open_entry r (l.i + 1)) c.keep_sheet.ensures in
    let e = rw l.invariant.1.0 at o in
    let n = finished-next l.self (omega arith) c.if-self-ne0.false in
    (ap close_finished e ∙ sym n ∙ l.invariant.0, (sym (ap (λ (r : Report). r.entry) o), l.invariant.1.1 ∙ sym (ap (λ (r : Report). entries r.toc) o)))

pub returns : goal.returns
unfolding open_entry keep_sheet
returns c = sym (finished-end _ (omega arith)) ∙ c.loop-i.invariant.0
