use Rattle.std.proofs.Common.{sym}
use Rattle.content.proofs.judge.Goals as goal

pub returns-then-is_frame : goal.returns-then-is_frame
returns-then-is_frame c = rw (sym c.is_frame.ensures, c.if-is_frame.true)

pub returns-else-is_frame : goal.returns-else-is_frame
returns-else-is_frame c = rw (sym c.is_frame.ensures, c.if-is_frame.false)
