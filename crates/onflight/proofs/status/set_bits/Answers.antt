use Rattle.std.proofs.Common.{arith}
use Rattle.onflight.proofs.BitLaws.{set-bits-sum}
use Rattle.onflight.proofs.status.set_bits.Goals as goal

pub returns : goal.returns
returns c = let s = c.args.status.now in
    omega (arith, set-bits-sum s)
