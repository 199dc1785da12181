use mathlib.Core.Path.{refl, ap, ◌∙◌}
use Prim.Native.Nat.{ℕ, min}
use native.Mathlib.Omega.{arith}
use Rattle.report.proofs.TextLaws.{laid_none, laid_next, laid-all}
use Rattle.report.proofs.Report.sheets_text.Goals as goal

pub loop-sheet-init : goal.loop-sheet-init
loop-sheet-init c = laid_none _ c.new-text.ensures

pub loop-sheet-preserved : goal.loop-sheet-preserved
loop-sheet-preserved c =
    let p = c.push_sheet.ensures in
    laid_next _ c.loop-sheet.sheet-index _ c.loop-sheet.text c.loop-sheet-test.true c.loop-sheet.invariant p.pushed p.short

pub returns : goal.returns
returns c =
    let l = c.loop-sheet in
    let n = c.min-n.ensures ∙ ap (λ (n : ℕ). min n 16) c.from.ensures in
    let p = laid-all c.args.self.now.sheets _ c.args.self.now.entry _ l.sheet-index l.text (omega arith) n refl (omega arith) l.invariant in
    record { text = p.0; short = p.1 }
