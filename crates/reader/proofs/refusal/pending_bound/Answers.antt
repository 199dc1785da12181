use Rattle.std.proofs.Common.{sym, ◌∙◌}
use Rattle.reader.proofs.RefusalLaws.{bound-is}
use Rattle.reader.proofs.refusal.pending_bound.Goals as goal

pub returns-in-Some : goal.returns-in-Some
returns-in-Some c = c.saturating_sub.ensures ∙ bound-is _ _ (sym c.layout_of.ensures ∙ c.in-Some.is)

pub returns-in-None : goal.returns-in-None
returns-in-None c = bound-is _ _ (sym c.layout_of.ensures ∙ c.in-None.is)
