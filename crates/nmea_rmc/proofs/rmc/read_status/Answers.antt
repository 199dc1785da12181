use mathlib.Core.Path.{◌∙◌}
use Rattle.nmea_rmc.specs.Rmc.{rmc_status_of}
use Rattle.nmea_sentence.proofs.FromLaws.{from_start, from_next}
use Rattle.nmea_sentence.proofs.JudgeLaws.{sentence_refused, judged-body, judged-tag, sentence_done}
use Rattle.nmea_rmc.proofs.rmc.read_status.Goals as goal

pub returns-in_err-judge : goal.returns-in_err-judge
unfolding rmc_status_of
returns-in_err-judge c = sentence_refused _ _ _ _ _ _ _ _ c.from_residual.ensures.1 c.in_err-judge.ensures

pub after_tag-from-requires : goal.after_tag-from-requires
unfolding rmc_status_of
after_tag-from-requires c = judged-tag _ _ _ c.in_ok-judge.ensures c.between.ensures

pub returns : goal.returns
unfolding rmc_status_of
returns c = let j = c.in_ok-judge.ensures in
    let from1 = from_start _ 1 c.after_tag-from.ensures in
    let from2 = from_next from1 c.field-time.ensures c.after_field-rest.ensures in
    sentence_done _ _ _ _ _ j (rw (c.field.ensures ∙ from2.at 0, c.between.ensures, judged-body _ _ _ j) at c.status_of.ensures)
