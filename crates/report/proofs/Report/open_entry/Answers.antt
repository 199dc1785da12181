use Rattle.report.specs.Step.{open_entry}
use Rattle.benchfile.specs.Toc.{entry_at}
use Rattle.report.proofs.Report.open_entry.Goals as goal

pub returns : goal.returns
unfolding open_entry entry_at
returns c = rw (c.fresh-self.ensures, c.left_at-self.ensures, c.from.ensures, c.entry_at-entry.ensures)
