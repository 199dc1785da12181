use Rattle.report.specs.Step.{fresh_report}
use Rattle.report.proofs.Report.fresh.Goals as goal

pub returns : goal.returns
unfolding fresh_report
returns c = rw c.fresh.ensures
