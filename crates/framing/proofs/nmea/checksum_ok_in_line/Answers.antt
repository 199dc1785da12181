use Rattle.std.proofs.Common.{sym}
use Rattle.framing.specs.Format.{shortest, pending_bound}
use Rattle.framing.proofs.SumLaws.{good-at}
use Rattle.framing.proofs.nmea.checksum_ok_in_line.Goals as goal

pub returns : goal.returns
unfolding shortest pending_bound
returns c = rw (c.digits_write.ensures, c.xor_first.ensures)
    (sym (good-at c.args.s.now c.args.n c.requires.0 c.requires.2))
