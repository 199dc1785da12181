use Rattle.benchfile.specs.Toc.{entry_at}
use Rattle.benchfile.specs.declared.Entry.{Entry}
use borrow.Author.Tests.{lt-ltb}
use mathlib.Core.Path.{ap}
use Rattle.report.proofs.left_at.Goals as goal

pub returns-then-i-byte_at : goal.returns-then-i-byte_at
unfolding entry_at
returns-then-i-byte_at c = rw (← c.byte_at.ensures, lt-ltb _ _ c.if-i-byte_at.true) (ap (λ (e : Entry). e.length) c.entry_at.ensures)
