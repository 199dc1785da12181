use mathlib.Core.Path.{sym, ◌∙◌}
use Rattle.nmea_plars_writer.specs.Text.{takes_setting}
use Rattle.nmea_plars_writer.proofs.takes.Goals as goal

pub returns-then-is_source : goal.returns-then-is_source
unfolding takes_setting
returns-then-is_source c = rw (sym c.is_source.ensures ∙ c.if-is_source.true) c.is_in_range.ensures

pub returns-else-is_source : goal.returns-else-is_source
unfolding takes_setting
returns-else-is_source c = rw (c.if-is_source.false, sym c.is_source.ensures ∙ c.if-is_source.false)
