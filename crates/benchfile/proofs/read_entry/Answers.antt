use mathlib.Core.Path.{ap}
use borrow.Author.Tests.{lt-ltb, le-ltb}
use Rattle.answer.specs.Answer.{given}
use Rattle.std.proofs.lemmas.Result.{err_from_is_err_and}
use Rattle.benchfile.proofs.TocLaws.{uncounted, counted}
use Rattle.benchfile.proofs.read_entry.Goals as goal

pub returns-in_err-count : goal.returns-in_err-count
returns-in_err-count c =
    let p = err_from_is_err_and c.from_residual.result c.from_residual.ensures.1 in
    rw (p.1, p.2) (uncounted c.args.s.now c.args.len c.args.i _ c.in_err-count.ensures)

pub returns-then-from-i : goal.returns-then-from-i
returns-then-from-i c = counted _ _ _ c.in_ok-count.ensures (rw (← c.from.ensures, le-ltb _ _ c.if-from-i.true))

pub returns : goal.returns
returns c = counted _ _ _ c.in_ok-count.ensures (rw (← c.from.ensures, lt-ltb _ _ c.if-from-i.false) (ap given c.entry_at.ensures))
