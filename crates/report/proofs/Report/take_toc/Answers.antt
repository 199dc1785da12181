use Rattle.report.specs.Step.{take_toc, keep_byte}
use borrow.Author.Tests.{le-ltb, lt-ltb}
use Rattle.report.proofs.Report.take_toc.Goals as goal

pub returns-then-self-lt-LONGEST_TOC : goal.returns-then-self-lt-LONGEST_TOC
unfolding take_toc keep_byte
returns-then-self-lt-LONGEST_TOC c = rw (lt-ltb _ _ c.if-self-lt-LONGEST_TOC.true) c.open_first.ensures

pub returns-else-self-lt-LONGEST_TOC : goal.returns-else-self-lt-LONGEST_TOC
unfolding take_toc keep_byte
returns-else-self-lt-LONGEST_TOC c = rw (le-ltb _ _ c.if-self-lt-LONGEST_TOC.false)
