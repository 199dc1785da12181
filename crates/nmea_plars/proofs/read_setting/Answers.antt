use mathlib.Core.Path.{◌∙◌}
use Rattle.nmea_plars.specs.Plars.{plars_tag, setting_of}
use Rattle.nmea_sentence.proofs.FromLaws.{behind-tag, from_start, from_next}
use Rattle.nmea_sentence.proofs.JudgeLaws.{sentence_refused, judged-body, judged-tag, sentence_done}
use Rattle.nmea_plars.proofs.read_setting.Goals as goal

pub returns-in_err-judge : goal.returns-in_err-judge
unfolding setting_of
returns-in_err-judge c = sentence_refused _ _ _ _ _ _ _ _ c.from_residual.ensures.1 c.in_err-judge.ensures

pub returns : goal.returns
unfolding setting_of
returns c =
    let j = c.in_ok-judge.ensures in
    let body = c.between-body.ensures in
    let source = c.field-source.ensures in
    let name = c.field-name.ensures in
    let value = c.field.ensures in
    let from1 = from_start _ 1 (c.after_field-from.ensures ∙ behind-tag plars_tag _ (judged-tag _ _ _ j body)) in
    let from2 = from_next from1 source c.after_field-from2.ensures in
    let from3 = from_next from2 name c.after_field-from3.ensures in
    sentence_done _ _ _ _ _ j (c.setting_of.ensures ∙ rw (value ∙ from3.at 0, name ∙ from2.at 0, source ∙ from1.at 0, body, judged-body _ _ _ j))
