use lib.ListN.{take}
use Rattle.reader.proofs.ReadLineLaws.{start-read}
use Rattle.reader.proofs.lines.read_line_unless_start.Goals as goal

pub returns-then-grows : goal.returns-then-grows
returns-then-grows c = start-read c.args.format (take c.args.end c.args.line.now) c.args.out.now (c.requires.2 c.if-grows.true)
