use Rattle.report.specs.Step.{keep_sheet, final_sheet}
use lib.Seq.{set_out}
use native.Mathlib.Omega.{arith}
use Rattle.report.proofs.Report.keep_sheet.Goals as goal

pub returns-then-i-lt-MOST_ENTRIES : goal.returns-then-i-lt-MOST_ENTRIES
unfolding keep_sheet
returns-then-i-lt-MOST_ENTRIES c = rw (c.from-i.ensures, c.final_sheet.ensures)

pub returns-else-i-lt-MOST_ENTRIES : goal.returns-else-i-lt-MOST_ENTRIES
unfolding keep_sheet
returns-else-i-lt-MOST_ENTRIES c =
    let a = c.args.self.now in
    rw (set_out a.sheets a.entry (final_sheet a.tally) (omega (arith, c.from-i.ensures)))
