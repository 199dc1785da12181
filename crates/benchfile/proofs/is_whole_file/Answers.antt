use Rattle.benchfile.proofs.TocLaws.{length-is}
use Rattle.benchfile.specs.Toc.{is_whole_file}
use Rattle.benchfile.proofs.is_whole_file.Goals as goal

pub returns-then-is_toc : goal.returns-then-is_toc
unfolding is_whole_file
returns-then-is_toc c = rw (← c.if-is_toc.ensures, length-is c.args.s.now c.entries.ensures c.entry_start.ensures)

pub returns-else-is_toc : goal.returns-else-is_toc
unfolding is_whole_file
returns-else-is_toc c = rw (c.if-is_toc.false, ← c.if-is_toc.ensures)
