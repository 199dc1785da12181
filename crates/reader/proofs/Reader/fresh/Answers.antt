use Rattle.std.proofs.Common.{sym, ap, ◌∙◌}
use Rattle.framing.specs.Format.{known}
use Rattle.reader.specs.State.{fresh_of}
use Rattle.reader.proofs.Reader.fresh.Goals as goal

pub returns-then-is_known : goal.returns-then-is_known
unfolding fresh_of
returns-then-is_known c = rw (c.empty.ensures, sym (c.is_known.ensures ∙ ap known c.from.ensures) ∙ c.if-is_known.true)

pub returns : goal.returns
unfolding fresh_of
returns c = rw (c.empty-2.ensures, sym (c.is_known.ensures ∙ ap known c.from.ensures) ∙ c.if-is_known.false)
