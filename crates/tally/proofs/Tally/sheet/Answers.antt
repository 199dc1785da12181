use Rattle.std.proofs.Common.{refl}
use Rattle.tally.specs.Step.{sheet_of}
use Rattle.tally.proofs.Tally.sheet.Goals as goal

pub returns : goal.returns
unfolding sheet_of
returns c = refl
