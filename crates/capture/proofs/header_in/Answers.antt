use Rattle.std.proofs.Common.{◌∙◌, refl}
use Rattle.std.specs.Int.{w32}
use Rattle.numbers.proofs.LowBytes.{to_le_bytes-low}
use Rattle.capture.proofs.header_in.Goals as goal

pub returns : goal.returns
returns c = rw (c.to_le_bytes.ensures ∙ to_le_bytes-low w32 _) refl
