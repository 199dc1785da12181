use mathlib.Core.Path.{refl}
use Rattle.frame_writer.proofs.WriterLaws.{body-laid}
use native.Mathlib.Omega.{arith}
use Rattle.frame_writer.proofs.put_front.Goals as goal

pub returns : goal.returns
returns c =
    let a = c.args in
    (refl, (omega arith, (body-laid a.head.now a.body.now a.out.now refl refl (omega arith) c.copy.ensures c.copy-2.ensures).is))
