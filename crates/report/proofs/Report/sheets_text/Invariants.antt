use Rattle.report.proofs.TextLaws.{Laid}
use Rattle.report.proofs.Report.sheets_text.Given as goal

abbrev pub invariant-loop-sheet : goal.invariant-loop-sheet
invariant-loop-sheet l = Laid l.sheet-items l.sheet-index l.text
