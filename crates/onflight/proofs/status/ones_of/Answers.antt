use Rattle.std.proofs.Common.{arith}
use lib.Count.{ones-le}
use Rattle.onflight.proofs.BitLaws.{ones-bits}
use Rattle.onflight.proofs.status.ones_of.Goals as goal

pub returns : goal.returns
returns c = (ones-bits 8 c.args.b (omega arith), ones-le 8 c.args.b (omega arith))
