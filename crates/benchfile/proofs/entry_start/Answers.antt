use Rattle.benchfile.specs.Toc.{entry_start}
use native.Mathlib.Omega.{arith}
use Rattle.benchfile.proofs.entry_start.Goals as goal

pub returns : goal.returns
unfolding entry_start
returns c = omega arith
