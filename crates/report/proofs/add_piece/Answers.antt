use Rattle.report.proofs.StepLaws.{piece_added}
use borrow.Author.Rules.{rules}
use Rattle.report.proofs.add_piece.Goals as goal

pub returns : goal.returns
returns c = piece_added _ _ _ _ _ (search rules) c.piece.ensures
