use native.Mathlib.Omega.{arith}
use mathlib.Core.Path.{ap}
use lib.ListN.{length}
use Rattle.buffer.proofs.BufferLaws.{copied_none}
use Rattle.buffer.proofs.text.Text.write.Goals as goal

pub returns-then-out-bytes-clause-after : goal.returns-then-out-bytes-clause-after
returns-then-out-bytes-clause-after g c = copied_none _ _ 0 (omega (arith, ap length c.as_bytes-bytes.ensures))
