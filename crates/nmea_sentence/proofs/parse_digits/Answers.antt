use Rattle.nmea_sentence.proofs.DigitLaws.{long, start, turn, low, high, done}
use borrow.Author.Rules.{rules}
use Rattle.nmea_sentence.proofs.parse_digits.Goals as goal

pub returns-then-s-gt9 : goal.returns-then-s-gt9
returns-then-s-gt9 c = long c.args.s.now (search rules)

pub loop-b-init : goal.loop-b-init
loop-b-init c = start c.args.s.now (search rules)

pub returns-then-b-lt48 : goal.returns-then-b-lt48
returns-then-b-lt48 c = low _ _ _ c.loop-b.invariant c.loop-b-test.true (search rules)

pub returns-then-b-gt57 : goal.returns-then-b-gt57
returns-then-b-gt57 c = high _ _ _ c.loop-b.invariant c.loop-b-test.true (search rules) (search rules)

pub loop-b-preserved : goal.loop-b-preserved
loop-b-preserved c = turn _ _ _ c.loop-b.invariant c.loop-b-test.true (search rules) (search rules)

pub returns : goal.returns
returns c = done _ _ _ c.loop-b.invariant c.loop-b-test.false
