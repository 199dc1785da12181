use Rattle.std.proofs.Common.{rules}
use Rattle.tally.specs.Step.{fresh_tally}
use Rattle.tally.proofs.Tally.fresh.Goals as goal

pub returns : goal.returns
unfolding fresh_tally
returns c = rw (← c.fresh-opening.ensures) (search rules)
