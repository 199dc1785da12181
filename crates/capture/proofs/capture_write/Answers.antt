use Rattle.frame_writer.specs.Frames.{takes}
use Rattle.frame_writer.specs.Output.{write}
use Rattle.capture.proofs.capture_write.Goals as goal

pub returns-in-Unknown : goal.returns-in-Unknown
unfolding takes write
returns-in-Unknown c = rw (← c.from.ensures, c.in-Unknown.is) (c.from-in-Unknown.ensures _)
