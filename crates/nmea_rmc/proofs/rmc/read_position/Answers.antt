use Rattle.nmea_rmc.specs.Rmc.{rmc_position_of}
use Rattle.nmea_sentence.proofs.JudgeLaws.{sentence_refused, judged-body, judged-tag, sentence_done}
use Rattle.nmea_rmc.proofs.rmc.read_position.Goals as goal

pub returns-in_err-judge : goal.returns-in_err-judge
unfolding rmc_position_of
returns-in_err-judge c = sentence_refused _ _ _ _ _ _ _ _ c.from_residual.ensures.1 c.in_err-judge.ensures

pub position_of-requires : goal.position_of-requires
unfolding rmc_position_of
position_of-requires c = judged-tag _ _ _ c.in_ok-judge.ensures c.between.ensures

pub returns : goal.returns
unfolding rmc_position_of
returns c = let j = c.in_ok-judge.ensures in
    sentence_done _ _ _ _ _ j (rw (c.between.ensures, judged-body _ _ _ j) at c.position_of.ensures)
