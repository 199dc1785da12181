use Rattle.report.specs.Step.{is_refused}
use Rattle.report.proofs.Report.is_refused.Goals as goal

pub returns-then-is_none : goal.returns-then-is_none
unfolding is_refused
returns-then-is_none c = rw (rw c.if-is_none.true at c.is_none.ensures)

pub returns : goal.returns
unfolding is_refused
returns c = rw (rw c.if-is_none.false at c.is_none.ensures)
