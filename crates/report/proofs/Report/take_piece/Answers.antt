use Rattle.report.specs.Step.{take_piece}
use Rattle.report.proofs.Report.take_piece.Goals as goal

pub returns : goal.returns
unfolding take_piece
returns c = rw c.add_piece.ensures
