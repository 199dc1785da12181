use Rattle.answer.proofs.AnswerLaws.{answers}
use Rattle.benchfile.specs.Toc.{entry_count_of}
use Rattle.benchfile.proofs.read_count.Goals as goal

pub returns-then-not-is_whole_file : goal.returns-then-not-is_whole_file
unfolding entry_count_of
returns-then-not-is_whole_file c = search answers

pub returns : goal.returns
unfolding entry_count_of
returns c = search answers
