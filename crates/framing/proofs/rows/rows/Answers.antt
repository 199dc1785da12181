use Rattle.std.proofs.Common.{arith}
use Rattle.framing.proofs.RowLaws.{columns-start, columns-more, columns-body, columns-xor, columns-commas}
use Rattle.framing.proofs.rows.rows.Goals as goal

pub loop-i-init : goal.loop-i-init
loop-i-init c = columns-start _ _ _ _

pub loop-i-preserved : goal.loop-i-preserved
loop-i-preserved c = columns-more c.loop-i.invariant (omega arith) (omega arith) c.min-second.ensures (omega arith)
    c.refused_of-refused.ensures c.kept-x.ensures c.kept-y.ensures c.commas_of-commas.ensures

pub returns : goal.returns
returns c = let w = c.loop-i.invariant in
    let e = c.min-second.ensures in
    record {
      body = columns-body w (omega arith) (omega arith) e (omega arith) (omega arith);
      xor = columns-xor w (omega arith) (omega arith) e (omega arith) (omega arith);
      commas = columns-commas w (omega arith) (omega arith) e (omega arith) (omega arith);
    }
