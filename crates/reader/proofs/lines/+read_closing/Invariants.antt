-- The measure is the slice's length.
use Rattle.std.proofs.Common.{length}
use Rattle.reader.proofs.lines.+read_closing.Given as goal

abbrev pub decreases-read_closing : goal.decreases-read_closing
decreases-read_closing l = length l.s.now
