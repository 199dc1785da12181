use Rattle.std.proofs.Common.{arith}
use mathlib.Core.Path.{◌≡◌}
use lib.ListN.{length}
use Rattle.reader.specs.State.{held_length}
use Rattle.reader_bytes.proofs.BytesLaws.{encode-copied}
use Rattle.reader_bytes.proofs.encode.Goals as goal

pub returns : goal.returns
returns c =
    -- the held bytes are as many as their array has
    let held-length : length c.args.r.held ≡ held_length = omega arith in
    rw (c.copy.ensures, c.put.ensures)
    (encode-copied c.from.result c.args.r c.args.bytes.now c.requires held-length c.from.ensures)
