use Rattle.std.proofs.Common.{◌∙◌, arith}
use Rattle.buffer.proofs.BufferLaws.{first-copied}
use Rattle.reader.proofs.held.hold.Goals as goal

pub returns : goal.returns
returns c =
    let a = c.args in
    c.clear.ensures ∙ rw (c.copy.auto.out, c.requires.1, c.copy.ensures, first-copied a.rest.now a.held.now (omega (arith, c.requires)))
