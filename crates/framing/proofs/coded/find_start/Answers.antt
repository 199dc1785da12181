use Rattle.std.proofs.Common.{◌∙◌}
use Rattle.framing.proofs.FindStartLaws.{find-start-by}
use Rattle.framing.proofs.coded.find_start.Goals as goal

pub returns : goal.returns
returns g c = c.find_byte.ensures ∙ find-start-by _ _ c.layout.ensures
