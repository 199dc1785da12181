use mathlib.Core.Path.{◌∙◌}
use Rattle.nmea_sentence.proofs.FromLaws.{behind-tag}
use Rattle.nmea_rmc.specs.Rmc.{rmc_tag}
use Rattle.nmea_rmc.proofs.rmc.after_tag.Goals as goal

pub returns : goal.returns
returns c = c.after_field.ensures ∙ behind-tag rmc_tag _ c.requires
