use Rattle.std.proofs.Common.{arith, of_calls}
use Rattle.framing.specs.Private.{differs}
use Rattle.framing.proofs.RunLaws.{both}
use Rattle.framing.proofs.find.find_in_blocks.Goals as goal

pub returns-then-n-lt64 : goal.returns-then-n-lt64
returns-then-n-lt64 c = let e = c.passing-n.ensures in
    (omega arith, both (differs c.args.first) _ _ _ _ c.loop-i.invariant (λ j a b. let q = e.1 j a b in search of_calls))

pub loop-i-preserved : goal.loop-i-preserved
loop-i-preserved c = let e = c.passing-n.ensures in
    both (differs c.args.first) _ _ _ _ c.loop-i.invariant (λ j a b. let q = e.1 j a (omega arith) in search of_calls)
