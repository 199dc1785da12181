use Rattle.framing.proofs.FrameRunLaws.{one-none, one-some}
use Rattle.framing.proofs.frame_run.frame_length.Goals as goal

pub returns-then-found-eq0 : goal.returns-then-found-eq0
returns-then-found-eq0 c = one-none _ _ c.frame_run-found.ensures c.if-found-eq0.true

pub returns : goal.returns
returns c = one-some _ _ c.frame_run-found.ensures c.if-found-eq0.false
