use Rattle.std.proofs.Common.{arith}
use Rattle.reader.specs.Calls.{a_close}
use Rattle.reader.proofs.InPlaceLaws.{by_value, by_value_refused}
use Rattle.reader.proofs.Reader.close.Goals as goal

pub returns-in_err-a : goal.returns-in_err-a
returns-in_err-a c =
    by_value_refused c.args.self.now _ (a_close _) (omega arith) c.from.ensures _ _ c.close.ensures _ c.from_residual.result c.in_err-a.was c.from_residual.ensures.1

pub returns : goal.returns
returns c = by_value c.args.self.now _ (a_close _) (omega arith) c.from.ensures _ _ c.close.ensures _ _ c.in_ok-a.was c.put.ensures
