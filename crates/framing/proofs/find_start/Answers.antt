use Rattle.std.proofs.Common.{sym, refl}
use Rattle.framing.specs.Format.{known}
use Rattle.framing.proofs.FindStartLaws.{find-start-all}
use Rattle.framing.proofs.find_start.Goals as goal

pub returns-in-Unknown : goal.returns-in-Unknown
unfolding known
returns-in-Unknown c = rw c.in-Unknown.is (sym (find-start-all _ refl _))
