use Rattle.benchfile.proofs.TocLaws.{length-is}
use Rattle.answer.proofs.AnswerLaws.{answers}
use Rattle.benchfile.specs.Toc.{file_length_of}
use Rattle.benchfile.proofs.read_length.Goals as goal

pub returns-then-not-is_toc : goal.returns-then-not-is_toc
unfolding file_length_of
returns-then-not-is_toc c = search answers

pub returns : goal.returns
unfolding file_length_of
returns c = let t = length-is _ c.entries.ensures c.entry_start.ensures in search answers
