use mathlib.Core.Path.{sym, ◌∙◌}
use lib.Seq.{take_all}
use Rattle.frame_writer.specs.Output.{write}
use Rattle.nmea_plars_writer.proofs.TextLaws.{body-short, body-taken}
use Rattle.nmea_plars_writer.proofs.write_setting.Goals as goal

pub returns-then-not-takes : goal.returns-then-not-takes
unfolding write
returns-then-not-takes c = rw (sym c.takes.ensures ∙ c.if-not-takes.true)

pub returns : goal.returns
unfolding write
returns c =
    let t = sym c.takes.ensures ∙ c.if-not-takes.false in
    let b = c.as_bytes.ensures ∙ c.body_of.ensures ∙ take_all 18 _ (body-short _ t) in
    c.write_nmea.ensures ∙ rw (b, body-taken _ t, t)
