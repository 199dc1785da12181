use mathlib.Core.Path.{sym, ◌∙◌}
use Rattle.nmea_sentence.proofs.CountLaws.{count_none, count-some}
use Rattle.nmea_sentence.proofs.count_by_rules.Goals as goal

pub returns-then-is_frame : goal.returns-then-is_frame
returns-then-is_frame c = count-some _ (sym c.is_frame.ensures ∙ c.if-is_frame.true) c.between.ensures c.field_count.ensures

pub returns-else-is_frame : goal.returns-else-is_frame
returns-else-is_frame c = count_none _ (sym c.is_frame.ensures ∙ c.if-is_frame.false)
